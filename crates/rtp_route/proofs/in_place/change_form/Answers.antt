use Rattle.std.proofs.Common.{rules, sym}
use Rattle.std.proofs.lemmas.Bool.{false≢true}
use Rattle.std.proofs.lemmas.Result.{err_from_is_err_and}
use Rattle.rtp_ext.specs.declared.form.ExtensionsForm.TheVariants.{TwoByte}
use Rattle.rtp_wire.specs.PutIntoPacket.{IsFirstNotPut}
use Rattle.rtp_wire.specs.RemadeBlock.{KeepsFromForm}
use Rattle.rtp_route.proofs.ChangeFormLemmas.{to-buf, from-buf, remakes-to}
use Rattle.rtp_route.proofs.in_place.change_form.Goals as goal

pub returns-in_err-change_form-clause-cause : goal.returns-in_err-change_form-clause-cause
returns-in_err-change_form-clause-cause c =
    let first = to-buf c.new-packet.result c.args.buf.now c.args.len c.new-packet.ensures.same_bytes c.new-packet.ensures.length c.requires.held
    (λ b room was. IsFirstNotPut (KeepsFromForm b room was TwoByte) c.in_err-change_form.field-0.0) c.in_err-change_form.ensures.cause in
    let p = err_from_is_err_and c.from_residual.result c.from_residual.ensures.1 in
    rw (p.1, p.2) first

pub returns-clause-changed : goal.returns-clause-changed
returns-clause-changed c =
    remakes-to c.new-packet.result c.args.buf.now c.args.len c.new-packet.ensures.same_bytes c.new-packet.ensures.length c.requires.held c.change_form.new.self _ _ (search rules)
    (sym c.len.ensures.length) c.in_ok-change_form.ensures.changed

pub returns-clause-none_refused : goal.returns-clause-none_refused
returns-clause-none_refused c cause fact =
    false≢true (c.in_ok-change_form.ensures.refused.1 (
      cause,
      from-buf c.new-packet.result c.args.buf.now c.args.len c.new-packet.ensures.same_bytes c.new-packet.ensures.length c.requires.held (λ b room was. KeepsFromForm b room was TwoByte cause) fact,
    ))
