use Rattle.rtp_wire.proofs.Common.{◌≡◌, ℕ, ◌+◌, ◌-◌, ◌≤◌, List, length, arith, rules, refl, subst, false≢true}
use Rattle.rtp_ext.specs.ElementsInARow.{elements_added}
use Rattle.rtp_wire.specs.declared.packet.not_put.NotPut.TheVariants.{NoRoom}
use Rattle.rtp_wire.specs.NotAPacket.{IsFirstBy}
use Rattle.rtp_wire.specs.PacketBuf.{bytes_of, parts_within}
use Rattle.rtp_wire.specs.PutIntoPacket.{put_place}
use Rattle.rtp_wire.specs.RewrittenBlock.{IsRewritten, StopsRewriting}
use Rattle.rtp_wire.proofs.PacketBufLemmas.{IsKept-new}
use Rattle.rtp_wire.proofs.RewrittenLemmas.{rewritten-len, first-no_room, none_at_all}
use Rattle.rtp_wire.proofs.packet.rtp_packet_buf.RtpPacketBuf.rewrite.Goals as goal
use Rattle.rtp_wire.proofs.packet.rtp_packet_buf.RtpPacketBuf.rewrite.Goals.{In_err-body_len, In_ok-body_len}

first-cause : (c : In_err-body_len)
    → IsFirstBy put_place (StopsRewriting (bytes_of c.args.self.now) (length c.args.self.now.buf.now) c.args.plan.now.new_form c.args.goes (elements_added c.args.comes)) c.in_err-body_len.field-0.0
first-cause c =
    subst (λ (b : List ℕ). IsFirstBy put_place (StopsRewriting b (length c.args.self.now.buf.now) c.args.plan.now.new_form c.args.goes (elements_added c.args.comes)) c.in_err-body_len.field-0.0)
    c.as_bytes.ensures (c.in_err-body_len.ensures.cause (length c.args.self.now.buf.now))

pub returns-in_err-body_len-clause-cause : goal.returns-in_err-body_len-clause-cause
returns-in_err-body_len-clause-cause c =
    let first = first-cause (goal.at.returns-in_err-body_len-clause-cause c).In_err-body_len in
    search rules

pub returns-in_err-body_len-clause-refused : goal.returns-in_err-body_len-clause-refused
returns-in_err-body_len-clause-refused c =
    (λ _. (c.in_err-body_len.field-0.0, (first-cause (goal.at.returns-in_err-body_len-clause-refused c).In_err-body_len).applies), λ _. c.from_residual.ensures.0)

-- what is found of the bytes is so of the packet
found : (c : In_ok-body_len)
    → (rewritten : IsRewritten (bytes_of c.args.self.now) c.args.plan.now.new_form c.args.goes (elements_added c.args.comes)) × (c.in_ok-body_len.body_len ≡ rewritten.body_len)
found c =
    subst (λ (b : List ℕ). (rewritten : IsRewritten b c.args.plan.now.new_form c.args.goes (elements_added c.args.comes)) × (c.in_ok-body_len.body_len ≡ rewritten.body_len))
    c.as_bytes.ensures c.in_ok-body_len.ensures.found

pub make-requires-clause-rewritten : goal.make-requires-clause-rewritten
make-requires-clause-rewritten c = found (goal.at.make-requires-clause-rewritten c).In_ok-body_len

-- how many bytes the packet then has
len-here : (c : In_ok-body_len) → (c.args.plan.now.payload_at ≤ c.args.self.now.len)
    × (c.args.plan.now.block_at + 4 + c.in_ok-body_len.body_len + (c.args.self.now.len - c.args.plan.now.payload_at) ≡ (found c).0.len)
    × (c.args.self.now.len ≤ (found c).0.len)
len-here c =
    rewritten-len c.args.self.now.buf.now c.args.self.now.len (parts_within c.args.self.now) c.args.goes c.args.plan.now c.requires.plan c.args.plan.now.new_form (elements_added c.args.comes)
    (found c).0 c.in_ok-body_len.body_len c.args.self.now.room (found c).1

few : (c : In_ok-body_len) → (found c).0.body_len ≤ 262140
few c = omega (arith, (found c).1, c.in_ok-body_len.ensures.few)

pub overflow_sub-len : goal.overflow_sub-len
overflow_sub-len c = (len-here (goal.at.overflow_sub-len c).In_ok-body_len).0

pub returns-then-len-self-clause-cause : goal.returns-then-len-self-clause-cause
returns-then-len-self-clause-cause c =
    let at = (goal.at.returns-then-len-self-clause-cause c).In_ok-body_len in
    first-no_room (bytes_of c.args.self.now) c.args.plan.now.new_form c.args.goes (elements_added c.args.comes) (found at).0 (few at)
    (length c.args.self.now.buf.now) _ (len-here at).1 c.if-len-self.true

pub returns-then-len-self-clause-refused : goal.returns-then-len-self-clause-refused
returns-then-len-self-clause-refused c =
    let at = (goal.at.returns-then-len-self-clause-refused c).In_ok-body_len in
    (λ _. (NoRoom _, ((found at).0, (len-here at).1, c.if-len-self.true)), λ _. refl)

pub overflow_sub-self : goal.overflow_sub-self
overflow_sub-self c = let all = len-here (goal.at.overflow_sub-self c).In_ok-body_len in omega (arith, all.1, all.2)

pub invariant_of-self : goal.invariant_of-self
invariant_of-self c =
    let at = (goal.at.invariant_of-self c).In_ok-body_len in
    let all = len-here at in
    let made = c.make.ensures.rewritten in
    IsKept-new c.args.self.now c.make.new.buf _ (omega (arith, c.if-len-self.false, c.make.auto.buf)) made.rewritten.parts c.args.plan.now.new_form made.body _
    made.rewritten.is_packet made.is_packet (omega (arith, all.1, all.2))

pub returns-clause-longer : goal.returns-clause-longer
returns-clause-longer c = let all = len-here (goal.at.returns-clause-longer c).In_ok-body_len in omega (arith, all.1, all.2)

pub returns-clause-refused : goal.returns-clause-refused
returns-clause-refused c =
    let at = (goal.at.returns-clause-refused c).In_ok-body_len in (
      λ wrong. absurd (false≢true wrong),
      λ fact.
          absurd (none_at_all (bytes_of c.args.self.now) c.args.plan.now.new_form c.args.goes (elements_added c.args.comes) (found at).0 (few at)
          (length c.args.self.now.buf.now) (omega (arith, (len-here at).1, c.if-len-self.false)) fact.0 fact.1),
    )
