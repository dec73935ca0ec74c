use Rattle.rtp_c.proofs.Common.{rules, refl, sym, false≢true}
use Rattle.std.specs.Prelude.{IsErr}
use Rattle.rtp_wire.specs.declared.packet.not_put.NotPut.TheVariants.{CutPacket, ZeroId, LongData}
use Rattle.rtp_wire.specs.PutIntoPacket.{IsFirstNotPut}
use Rattle.rtp_wire.specs.RemadeBlock.{KeepsFromAdding}
use Rattle.rtp_c.specs.ChangedBlock.{KeepsElement}
use Rattle.rtp_c.proofs.BlockLemmas.{first-kept, kept-from, IsAdded-in}
use Rattle.rtp_c.proofs.blocks.add_element.Goals as goal
use Rattle.rtp_c.proofs.blocks.add_element.Goals.{In_err-add_element}

pub returns-then-len-buf-clause-refused : goal.returns-then-len-buf-clause-refused
returns-then-len-buf-clause-refused c = (λ _. (CutPacket, search rules), λ _. refl)

pub returns-then-id-eq0-clause-refused : goal.returns-then-id-eq0-clause-refused
returns-then-id-eq0-clause-refused c = (λ _. (ZeroId, search rules), λ _. refl)

pub returns-then-data-gt255-clause-refused : goal.returns-then-data-gt255-clause-refused
returns-then-data-gt255-clause-refused c = (λ _. (LongData, search rules), λ _. refl)

-- the cause is the first one in the buffer too
first : (c : In_err-add_element) → IsFirstNotPut (KeepsElement c.args.buf.now c.args.len (c.args.id, c.args.data.now) c.args.allowed) c.in_err-add_element.field-0.0
first c =
    first-kept c.new-packet.result c.args.buf.now c.args.len c.new-packet.ensures.same_bytes c.new-packet.ensures.length (λ b room was cause. KeepsFromAdding b room was (c.args.id, c.args.data.now) c.args.allowed cause)
    (λ b room was no. no) (λ b room was cause no. no) c.in_err-add_element.field-0.0 c.in_err-add_element.ensures.cause

pub returns-in_err-add_element-clause-cause : goal.returns-in_err-add_element-clause-cause
returns-in_err-add_element-clause-cause c =
    let is = first (goal.at.returns-in_err-add_element-clause-cause c).In_err-add_element in
    search rules

pub returns-in_err-add_element-clause-refused : goal.returns-in_err-add_element-clause-refused
returns-in_err-add_element-clause-refused c =
    let is = first (goal.at.returns-in_err-add_element-clause-refused c).In_err-add_element in
    let err : IsErr c.from_residual-in_err-add_element.result = search rules in
    (λ _. (c.in_err-add_element.field-0.0, is.applies), λ _. err)

pub returns-clause-added : goal.returns-clause-added
returns-clause-added c =
    IsAdded-in c.new-packet.result c.add_element.new.self c.args.buf.now _ c.args.len _ c.new-packet.ensures.same_bytes c.new-packet.ensures.length (search rules) (sym c.len.ensures.length)
    (c.args.id, c.args.data.now) c.args.allowed c.in_ok-add_element.ensures.added

pub returns-clause-refused : goal.returns-clause-refused
returns-clause-refused c = (
  λ wrong. absurd (false≢true wrong),
  λ fact. c.in_ok-add_element.ensures.refused.1 (
    fact.0,
    kept-from c.new-packet.result c.args.buf.now c.args.len c.new-packet.ensures.same_bytes c.new-packet.ensures.length (λ b room was cause. KeepsFromAdding b room was (c.args.id, c.args.data.now) c.args.allowed cause)
        (λ b room was no. no) (λ b room was cause no. no) fact.0 fact.1,
  ),
)
