use Rattle.rtp_c.proofs.Common.{[], rules, sym, false≢true}
use Rattle.std.specs.Prelude.{IsErr}
use Rattle.rtp_wire.specs.PutIntoPacket.{IsFirstNotPut}
use Rattle.rtp_wire.specs.RemadeBlock.{KeepsFromForm, IsInOther}
use Rattle.rtp_c.specs.ChangedBlock.{KeepsBlock}
use Rattle.rtp_c.proofs.BlockLemmas.{first-kept, kept-from, in_buffer, from_buffer, RemakesBlock-in, stays-in}
use Rattle.rtp_c.proofs.blocks.change_form.Goals as goal
use Rattle.rtp_c.proofs.blocks.change_form.Goals.{In_err-change_form}

-- the cause is the first one in the buffer too
first : (c : In_err-change_form) → IsFirstNotPut (KeepsBlock c.args.buf.now c.args.len c.args.form) c.in_err-change_form.field-0.0
first c =
    first-kept c.new-packet.result c.args.buf.now c.args.len c.new-packet.ensures.same_bytes c.new-packet.ensures.length (λ b room was cause. KeepsFromForm b room was c.args.form cause)
    (λ b room was no. no) (λ b room was cause no. no) c.in_err-change_form.field-0.0 c.in_err-change_form.ensures.cause

pub returns-in_err-change_form-clause-cause : goal.returns-in_err-change_form-clause-cause
returns-in_err-change_form-clause-cause c =
    let is = first (goal.at.returns-in_err-change_form-clause-cause c).In_err-change_form in
    search rules

pub returns-in_err-change_form-clause-refused : goal.returns-in_err-change_form-clause-refused
returns-in_err-change_form-clause-refused c =
    let is = first (goal.at.returns-in_err-change_form-clause-refused c).In_err-change_form in
    let err : IsErr c.from_residual-in_err-change_form.result = search rules in
    (λ _. (c.in_err-change_form.field-0.0, is.applies), λ _. err)

pub returns-clause-changed : goal.returns-clause-changed
returns-clause-changed c = λ other.
    RemakesBlock-in c.new-packet.result c.change_form.new.self c.args.buf.now _ c.args.len _ c.new-packet.ensures.same_bytes c.new-packet.ensures.length (search rules) (sym c.len.ensures.length)
    c.args.form []
    (c.in_ok-change_form.ensures.changed (from_buffer c.new-packet.result c.args.buf.now c.args.len c.new-packet.ensures.same_bytes c.new-packet.ensures.length
    (λ b room was. IsInOther was c.args.form) other))

pub returns-clause-same : goal.returns-clause-same
returns-clause-same c = λ other.
    stays-in c.new-packet.result c.change_form.new.self c.args.buf.now _ c.args.len _ c.new-packet.ensures.same_bytes c.new-packet.ensures.length (search rules) (sym c.len.ensures.length)
    (c.in_ok-change_form.ensures.same (λ is. other (in_buffer c.new-packet.result c.args.buf.now c.args.len c.new-packet.ensures.same_bytes c.new-packet.ensures.length
    (λ b room was. IsInOther was c.args.form) is)))

pub returns-clause-refused : goal.returns-clause-refused
returns-clause-refused c = (
  λ wrong. absurd (false≢true wrong),
  λ fact. c.in_ok-change_form.ensures.refused.1 (
    fact.0,
    kept-from c.new-packet.result c.args.buf.now c.args.len c.new-packet.ensures.same_bytes c.new-packet.ensures.length (λ b room was cause. KeepsFromForm b room was c.args.form cause)
        (λ b room was no. no) (λ b room was cause no. no) fact.0 fact.1,
  ),
)
