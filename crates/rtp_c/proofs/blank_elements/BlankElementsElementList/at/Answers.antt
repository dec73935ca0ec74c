use Rattle.std.proofs.Common.{◌≡◌, ℕ, List, replicate, take, get_or, Some, sym, ap, ◌∙◌, arith}
use Rattle.std.proofs.lemmas.List.{take-replicate, length-map}
use Rattle.std.proofs.lemmas.Option.{slice_get-get_or, slice_get-map}
use Rattle.std.specs.Option.{option_map}
use Rattle.rtp_ext.specs.Elements.{Element}
use Rattle.rtp_c.specs.declared.packet.ElementView.{ElementView}
use Rattle.rtp_c.proofs.blank_elements.BlankElementsElementList.at.Goals as goal

pub returns : goal.returns
returns c =
    let known = c.args.self.now in
    let views = known.views.now in
    let none : ElementView = record { data_at = 0; data_len = 0; end = 0; id = 0 } in
    let view : ElementView = get_or views c.args.index none in
    let blank : ElementView → Element = λ v. (v.id, replicate v.data_len 0) in
    let within = c.requires in
    let zeros : take {A = ℕ} view.data_len (replicate 255 0) ≡ replicate view.data_len 0 = take-replicate view.data_len 255 0 (known.short c.args.index none (omega (arith, within, length-map views blank))) in
    slice_get-map blank views c.args.index ∙ ap (option_map blank) (slice_get-get_or views c.args.index none (omega (arith, within, length-map views blank)))
    ∙ ap (λ (bytes : List ℕ). Some (view.id, bytes)) (sym zeros)
