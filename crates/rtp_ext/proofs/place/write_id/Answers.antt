use Rattle.rtp_ext.proofs.Common.{◌≡◌, ◌-◌, length, arith, ◌∙◌, element_bytes}
use Rattle.rtp_ext.proofs.PlaceLemmas.{renumbered_at, zeros_at, length-lies}
use Rattle.rtp_ext.proofs.place.write_id.Goals as goal

pub returns-in-Some : goal.returns-in-Some
returns-in-Some c = λ lies.
    rw c.in-Some.is (rw c.if-id-place.true lies.body_is)

pub returns-in-Some-2 : goal.returns-in-Some-2
returns-in-Some-2 c = λ lies.
    let len : c.args.place.now.end - c.args.place.now.data_start ≡ length lies.bytes = omega (arith, lies.end_is) in
    rw c.in-Some-2.is
    (c.write_header.ensures ∙ renumbered_at c.args.form lies.front lies.bytes lies.after c.args.place.now.id c.in-Some-2.id lies.body_is lies.start_is len)

pub returns-in-None : goal.returns-in-None
returns-in-None c = λ lies.
    let len : c.args.place.now.end - c.args.place.now.start ≡ length (element_bytes c.args.form (c.args.place.now.id, lies.bytes)) =
    omega (arith, length-lies lies) in
    rw c.in-None.is
    (c.clear.ensures ∙ zeros_at c.args.form lies.front lies.bytes lies.after c.args.place.now.id lies.body_is lies.start_is len)
