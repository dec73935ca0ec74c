use Rattle.std.proofs.Common.{refl, sym, ap, subst, ◌∙◌, ◌≤◌, ◌++◌, drop, length}
use Rattle.std.specs.Option.{option_copied}
use Rattle.rtp_base.proofs.OverwritingLemmas.{overwritten-front}
use Rattle.rtp_vla.specs.Allocation.{Allocation}
use Rattle.rtp_vla.specs.AllocationWritten.{written_of}
use Rattle.rtp_values.specs.WithLayers.{values_with_layers}
use Rattle.rtp_values.proofs.ValueLemmas.{room_for, WritesData-put, measured-allocation, AreData-allocation}
use Rattle.rtp_values.proofs.value.video_layers_allocation.write_held.Goals as goal

pub write_to-requires : goal.write_to-requires
write_to-requires c =
    let is = ap option_copied c.in_ok-layers.was in
    let a = c.in_ok-layers.layers.now in
    let found = rw c.held.ensures at c.in_ok-measured.ensures.found in
    let told = measured-allocation (values_with_layers c.args.ev.now) a (length (written_of a)) is found.1 refl found.2 in
    subst (λ (m : Allocation). length (written_of m) ≤ length c.args.buf.now) (sym found.0) (room_for (AreData-allocation {shown = values_with_layers c.args.ev.now} refl is told) c.args.buf.now c.requires.room)

pub returns : goal.returns
returns c =
    let is = ap option_copied c.in_ok-layers.was in
    let a = c.in_ok-layers.layers.now in
    let found = rw c.held.ensures at c.in_ok-measured.ensures.found in
    let told = measured-allocation (values_with_layers c.args.ev.now) a (length (written_of a)) is found.1 refl found.2 in
    let put = rw found.0 at c.write_to.ensures in
    WritesData-put (AreData-allocation {shown = values_with_layers c.args.ev.now} refl is told) put.length
    (put.written ∙ (ap (λ len. written_of a ++ drop len c.args.buf.now) put.length ∙ sym (overwritten-front c.args.buf.now _)))
