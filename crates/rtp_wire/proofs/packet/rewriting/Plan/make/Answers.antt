use Rattle.std.proofs.Common.{◌≡◌, ℕ, ◌+◌, ◌-◌, ◌*◌, ◌≤◌, List, length, take, drop, refl, arith, sym, ap, ◌∙◌, subst, length-take-le}
use Rattle.std.proofs.lemmas.Bool.{false≢true}
use Rattle.std.proofs.lemmas.List.{take-take}
use Rattle.std.specs.Prelude.{slice_range}
use Rattle.std.specs.List.{AllByRecursion}
use Rattle.std.specs.Int.{w16, to_be_bytes}
use Rattle.rtp_base.specs.Overwriting.{overwritten}
use Rattle.rtp_ext.specs.Form.{form_word}
use Rattle.rtp_ext.specs.Elements.{Element, AreElements, elements_bytes}
use Rattle.rtp_ext.specs.ElementsInARow.{IsWritable, elements_added}
use Rattle.rtp_ext.specs.PutElement.{rewritten_elements, row_to}
use Rattle.rtp_ext.specs.BodySurvey.{IsSurvey}
use Rattle.rtp_ext.proofs.LastPlaceLemmas.{AreElements-same}
use Rattle.rtp_wire.specs.declared.packet.rewriting.Plan.{Plan}
use Rattle.rtp_wire.specs.NotAHeader.{sources_end}
use Rattle.rtp_wire.specs.Packet.{header_len_of}
use Rattle.rtp_wire.specs.PartsAt.{parts_at}
use Rattle.rtp_wire.specs.PutIntoPacket.{body_of_block}
use Rattle.rtp_wire.specs.GrowingPacket.{with_extension_bit}
use Rattle.rtp_wire.specs.RewrittenBlock.{IsRewritten, IsPlan}
use Rattle.rtp_wire.proofs.ResizedLemmas.{len-is, take-body}
use Rattle.rtp_wire.proofs.GrowthLemmas.{IsLaid, IsLaid-announced, IsLaid-new, middle-laid, length-middle, IsPacket-new, behind-new, word-new, written-new}
use Rattle.rtp_wire.proofs.PutPlanLemmas.{plan-of, body-elements}
use Rattle.rtp_wire.proofs.SetInPlaceLemmas.{body-ends}
use Rattle.rtp_wire.proofs.RewrittenLemmas.{rewritten-fit, rewritten-fits, rewritten-whole, rewritten-len}
use Rattle.rtp_wire.proofs.packet.rewriting.Plan.make.Goals as goal
use Rattle.rtp_wire.proofs.packet.rewriting.Plan.make.Goals.{Joined-not-self, then-not-self, else-not-self}

pub resize-requires-clause-order : goal.resize-requires-clause-order
resize-requires-clause-order c =
    let is = c.requires.plan in
    omega (arith, is.payload_is, len-is c.args.buf.now c.args.len (parts_at (take c.args.len c.args.buf.now)) is.is_packet c.requires.within)

-- the plan is that of the parts that are rewritten
planned : (c : Joined-not-self) → IsPlan (take c.args.len c.args.buf.now) c.requires.rewritten.0.parts c.args.goes c.args.self.now
planned c = plan-of (take c.args.len c.args.buf.now) c.requires.rewritten.0.parts c.args.goes c.args.self.now c.requires.rewritten.0.is_packet c.requires.plan

module _ (c : Joined-not-self) where
  abbrev self : Plan
  self = c.args.self.now

  abbrev rewritten : IsRewritten (take c.args.len c.args.buf.now) self.new_form c.args.goes (elements_added c.args.comes)
  rewritten = c.requires.rewritten.0

  abbrev is : IsPlan (take c.args.len c.args.buf.now) rewritten.parts c.args.goes self
  is = planned c

  laid : IsLaid c.args.buf.now c.args.len rewritten.parts rewritten.is_packet self.new_form self.block_at c.args.new_body_len c.if-not-self.buf
  laid = elim c.if-not-self.branch [
    | then-not-self w ↦
        IsLaid-new c.args.buf.now c.args.len rewritten.parts rewritten.is_packet c.requires.within self.block_at is.block_is self.payload_at is.payload_is c.args.new_body_len c.requires.room
        self.new_form c.if-not-self.buf (λ some. false≢true (sym w.if-not-self.true ∙ is.announced.1 some))
        (w.buf-is ∙ w.announce.ensures ∙ ap (λ (xs : List ℕ). overwritten (with_extension_bit xs) self.block_at (to_be_bytes w16 (form_word self.new_form))) c.resize.ensures)
    | else-not-self w ↦
        IsLaid-announced c.args.buf.now c.args.len rewritten.parts rewritten.is_packet c.requires.within self.block_at is.block_is self.payload_at is.payload_is c.args.new_body_len c.requires.room
        self.new_form c.if-not-self.buf (is.announced.0 w.if-not-self.false) (w.buf-is ∙ c.resize.ensures)
  ]

  -- where the body is made
  abbrev room : List ℕ
  room = take (self.block_at + 4 + c.args.new_body_len - (self.block_at + 4)) (drop (self.block_at + 4) c.if-not-self.buf)

  room-is : room ≡ slice_range c.args.buf.now (self.block_at + 4) (self.block_at + 4 + c.args.new_body_len)
  room-is =
      middle-laid c.args.buf.now c.args.len rewritten.parts rewritten.is_packet c.requires.within self.block_at is.block_is self.payload_at is.payload_is c.args.new_body_len c.requires.room
      self.new_form c.if-not-self.buf laid

  length-room : length room ≡ c.args.new_body_len
  length-room =
      ap length room-is
      ∙ length-middle c.args.buf.now c.args.len rewritten.parts rewritten.is_packet c.requires.within self.block_at is.block_is self.payload_at is.payload_is c.args.new_body_len c.requires.room
      self.new_form c.if-not-self.buf laid

  body-here : take self.body_len room ≡ body_of_block rewritten.parts.block
  body-here =
      ap (take self.body_len) room-is
      ∙ ap (λ (k : ℕ). take k (slice_range c.args.buf.now (self.block_at + 4) (self.block_at + 4 + c.args.new_body_len))) is.body_is
      ∙ take-body c.args.buf.now c.args.len rewritten.parts rewritten.is_packet c.requires.within self.block_at is.block_is c.args.new_body_len
      (omega (arith, rewritten-fits (take c.args.len c.args.buf.now) self.new_form c.args.goes (elements_added c.args.comes) rewritten, c.requires.rewritten.1))

  elements-here : AreElements self.form (take self.body_len room) rewritten.elements
  elements-here =
      subst (λ (b : List ℕ). AreElements self.form b rewritten.elements) (sym body-here)
      (body-elements rewritten.parts.block rewritten.elements self.new_form self.form is.was_form rewritten.are_elements)

  same-here : (elements : List Element) → AreElements self.form (take self.body_len room) elements → elements ≡ rewritten.elements
  same-here elements are = AreElements-same self.form (take self.body_len room) elements rewritten.elements are elements-here

  fits : (elements : List Element) → AreElements self.form (take self.body_len room) elements
      → length (elements_bytes self.new_form (rewritten_elements c.args.goes (elements_added c.args.comes) elements)) ≤ length room
  fits elements are =
      omega (
        arith,
        ap (λ (es : List Element). length (elements_bytes self.new_form (rewritten_elements c.args.goes (elements_added c.args.comes) es))) (same-here elements are),
        rewritten-fit (take c.args.len c.args.buf.now) self.new_form c.args.goes (elements_added c.args.comes) rewritten,
        c.requires.rewritten.1,
        length-room,
      )

  carried : (elements : List Element) → AreElements self.form (take self.body_len room) elements → AllByRecursion (IsWritable self.new_form) (rewritten_elements c.args.goes (elements_added c.args.comes) elements)
  carried elements are = subst (λ (es : List Element). AllByRecursion (IsWritable self.new_form) (rewritten_elements c.args.goes (elements_added c.args.comes) es)) (sym (same-here elements are)) rewritten.are_carried

pub rewrite_body-requires-clause-within : goal.rewrite_body-requires-clause-within
rewrite_body-requires-clause-within c =
    let joined = (goal.at.rewrite_body-requires-clause-within c).Joined-not-self in
    omega (
      arith,
      length-room joined,
      rewritten-fits (take c.args.len c.args.buf.now) c.args.self.now.new_form c.args.goes (elements_added c.args.comes) c.requires.rewritten.0,
      (planned joined).body_is,
      c.requires.rewritten.1,
    )

pub rewrite_body-requires-clause-survey : goal.rewrite_body-requires-clause-survey
rewrite_body-requires-clause-survey c =
    let joined = (goal.at.rewrite_body-requires-clause-survey c).Joined-not-self in
    subst (λ (b : List ℕ). IsSurvey c.args.self.now.form b c.args.goes c.args.self.now.survey) (sym (body-here joined)) (planned joined).survey_is

pub rewrite_body-requires-clause-carried : goal.rewrite_body-requires-clause-carried
rewrite_body-requires-clause-carried c = λ elements are. carried (goal.at.rewrite_body-requires-clause-carried c).Joined-not-self elements are

pub rewrite_body-requires-clause-room : goal.rewrite_body-requires-clause-room
rewrite_body-requires-clause-room c = λ elements are. fits (goal.at.rewrite_body-requires-clause-room c).Joined-not-self elements are

abbrev len-here : (c : Joined-not-self) → (c.args.self.now.payload_at ≤ c.args.len)
    × (c.args.self.now.block_at + 4 + c.args.new_body_len + (c.args.len - c.args.self.now.payload_at) ≡ c.requires.rewritten.0.len) × (c.args.len ≤ c.requires.rewritten.0.len)
len-here c =
    rewritten-len c.args.buf.now c.args.len c.requires.rewritten.0.parts c.args.goes c.args.self.now (planned c) c.args.self.now.new_form (elements_added c.args.comes) c.requires.rewritten.0 c.args.new_body_len
    c.requires.within c.requires.rewritten.1

pub returns-clause-rewritten : goal.returns-clause-rewritten
returns-clause-rewritten c =
    let joined = (goal.at.returns-clause-rewritten c).Joined-not-self in
    let self = c.args.self.now in
    let is = planned joined in
    let rewritten = c.requires.rewritten.0 in
    let all = len-here joined in
    let body : List ℕ = c.rewrite_body.new.body in
    let as_long : length body ≡ c.args.new_body_len = c.rewrite_body.auto.body ∙ length-room joined in
    let n : ℕ = self.block_at + 4 + c.args.new_body_len + (c.args.len - self.payload_at) in
    let size : n ≡ 12 + 4 * length rewritten.parts.sources + (4 + c.args.new_body_len) + length rewritten.parts.payload = omega (arith, all.1, rewritten.len_is, c.requires.rewritten.1) in
    let long : length (take c.args.len c.args.buf.now) ≡ c.args.len = length-take-le c.args.len c.args.buf.now c.requires.within in
    record {
      rewritten = rewritten;
      body = body;
      len_is = all.1;
      body_is = c.rewrite_body.ensures.row rewritten.elements (elements-here joined)
          ∙ ap (row_to self.new_form (rewritten_elements c.args.goes (elements_added c.args.comes) rewritten.elements)) (length-room joined ∙ c.requires.rewritten.1);
      is_packet =
          IsPacket-new c.args.buf.now c.args.len rewritten.parts rewritten.is_packet c.requires.within self.block_at is.block_is self.payload_at is.payload_is c.args.new_body_len c.requires.room
          self.new_form c.if-not-self.buf (laid joined) body as_long n rewritten.no_other size
          (omega (arith, rewritten-whole (take c.args.len c.args.buf.now) self.new_form c.args.goes (elements_added c.args.comes) rewritten, c.requires.rewritten.1)) c.requires.few;
      are_elements = c.rewrite_body.ensures.elements rewritten.elements (elements-here joined);
      word_is = λ some.
          let ends = body-ends (take c.args.len c.args.buf.now) rewritten.parts rewritten.is_packet self.new_form some (sources_end (take c.args.len c.args.buf.now)) (header_len_of rewritten.parts) refl refl in
          word-new c.args.buf.now c.args.len rewritten.parts rewritten.is_packet c.requires.within self.block_at is.block_is self.payload_at is.payload_is c.args.new_body_len c.requires.room
          self.new_form c.if-not-self.buf (laid joined) body as_long some
          ∙ sym (take-take (sources_end (take c.args.len c.args.buf.now) + 2) c.args.len c.args.buf.now (omega (arith, ends.0, ends.1, long)));
      new_word_is = λ other.
          written-new c.args.buf.now c.args.len rewritten.parts rewritten.is_packet c.requires.within self.block_at is.block_is self.payload_at is.payload_is c.args.new_body_len c.requires.room
          self.new_form c.if-not-self.buf (laid joined) body as_long other;
    }

pub returns-clause-behind : goal.returns-clause-behind
returns-clause-behind c = λ new_len new_len-is.
    let joined = (goal.at.returns-clause-behind c).Joined-not-self in
    let self = c.args.self.now in
    let is = planned joined in
    let rewritten = c.requires.rewritten.0 in
    behind-new c.args.buf.now c.args.len rewritten.parts rewritten.is_packet c.requires.within self.block_at is.block_is self.payload_at is.payload_is c.args.new_body_len c.requires.room
    self.new_form c.if-not-self.buf (laid joined) c.rewrite_body.new.body (c.rewrite_body.auto.body ∙ length-room joined) new_len
    (omega (arith, new_len-is, (len-here joined).1, rewritten.len_is, c.requires.rewritten.1))
