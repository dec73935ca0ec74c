use Rattle.std.proofs.Common.{length, refl, sym, ap, ◌∙◌, ◌++◌, drop}
use Rattle.rtp_base.proofs.OverwritingLemmas.{overwritten-front}
use Rattle.rtp_vla.specs.AllocationWritten.{written_of}
use Rattle.rtp_values.specs.declared.value.values.ExtensionValues.{ExtensionValues}
use Rattle.rtp_values.proofs.ValueLemmas.{room_for, WritesData-put, AreData-allocation, measured-allocation}
use Rattle.rtp_values.proofs.value.carried_layers.CarriedLayers.write_layers.Goals as goal

pub write_to-requires : goal.write_to-requires
write_to-requires g c =
    let is = ap (λ (values : ExtensionValues). values.video_layers_allocation) (sym c.self.view_is) in
    let measured = measured-allocation c.args.self.now c.self.inside.layers (length (written_of c.self.inside.layers)) is c.self.invariant.0 refl c.self.invariant.1 in
    room_for (AreData-allocation {shown = c.args.self.now} {values = c.args.self.now} refl is measured) c.args.buf.now c.requires.room

pub returns : goal.returns
returns g c =
    let is = ap (λ (values : ExtensionValues). values.video_layers_allocation) (sym c.self.view_is) in
    let measured = measured-allocation c.args.self.now c.self.inside.layers (length (written_of c.self.inside.layers)) is c.self.invariant.0 refl c.self.invariant.1 in
    WritesData-put (AreData-allocation {shown = c.args.self.now} {values = c.args.self.now} refl is measured) c.write_to.ensures.length
    (c.write_to.ensures.written ∙ (ap (λ len. written_of c.self.inside.layers ++ drop len c.args.buf.now) c.write_to.ensures.length ∙ sym (overwritten-front c.args.buf.now _)))
