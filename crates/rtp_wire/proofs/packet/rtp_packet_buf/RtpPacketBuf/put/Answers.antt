use Rattle.rtp_wire.proofs.Common.{◌≡◌, ℕ, ◌≤◌, ◌++◌, Bool, true, false, List, [], ◌∷◌, length, take, drop, Some, arith, rules, refl, sym, ap, ◌∙◌, subst, false≢true, OnTrue_at, OnFalse_at, take-append-drop, length-append, ExtensionsForm, Element, Option, needed_form, allowed_form, form_of_block, PutsElement, IsPlan, PacketParts}
use Rattle.std.specs.Prelude.{IsErr, IfErr, OnOk, ◌↔◌}
use Rattle.std.proofs.lemmas.Result.{IfOk-weaker, IfErr-weaker}
use Rattle.rtp_ext.specs.ElementsInARow.{IsWritable}
use Rattle.rtp_wire.specs.declared.packet.rtp_packet_buf.RtpPacketBuf.{RtpPacketBuf}
use Rattle.rtp_wire.specs.declared.packet.not_put.NotPut.{NotPut}
use Rattle.rtp_wire.specs.NotAPacket.{IsFirstBy}
use Rattle.rtp_wire.specs.PacketBuf.{bytes_of, parts_within}
use Rattle.rtp_wire.specs.PartsAt.{parts_at}
use Rattle.rtp_wire.specs.PutIntoPacket.{IsGrowth, AppliesToPut, IsFirstNotPut, put_place}
use Rattle.rtp_wire.specs.RewrittenBlock.{StopsForm, IsRewritten, RewritesBlock, StopsRewriting}
use Rattle.rtp_wire.proofs.PacketBufLemmas.{IsKept, IsKept-laid, IsKept-new, held, kept-parts, length-bytes}
use Rattle.rtp_wire.proofs.PutPlanLemmas.{IsWritable-allowed, plan-of}
use Rattle.rtp_wire.proofs.RewrittenLemmas.{are-in_packet, new-rewritten, none_at_all, short-kept}
use Rattle.rtp_wire.proofs.PutElementLemmas.{first-form, cause-to, form-to_put, put-to_form, form-of, carried, growth-of, of-growth, rewriting-to_put, put-to_rewriting, PutsElement-rewritten, PutsElement-front}
use Rattle.rtp_wire.proofs.packet.rtp_packet_buf.RtpPacketBuf.put.Goals as goal
use Rattle.rtp_wire.proofs.packet.rtp_packet_buf.RtpPacketBuf.put.Goals.{After-form_with, After-set}

-- ---- the form

first : {g : _} (c : After-form_with g) (cause : NotPut) → IsFirstBy put_place (StopsForm c.as_packet-packet.result.datagram.now (c.args.id, c.args.data.now) c.args.allowed) cause
    → IsFirstBy put_place (AppliesToPut c.args.self.now.buf.now c.args.self.now.len (c.args.id, c.args.data.now) c.args.allowed) cause
first c cause =
    let fits = c.in_ok-check_element.ensures.fits in
    first-form (bytes_of c.args.self.now) _ (c.args.id, c.args.data.now) c.args.allowed _ cause c.as_packet-packet.ensures.bytes
    (form-to_put c.args.self.now (c.args.id, c.args.data.now) c.args.allowed fits.0 fits.1) (put-to_form c.args.self.now (c.args.id, c.args.data.now) c.args.allowed fits.0 fits.1)

pub returns-in_err-form-clause-cause : goal.returns-in_err-form-clause-cause
returns-in_err-form-clause-cause g c = let found = first (goal.at.returns-in_err-form-clause-cause g c).After-form_with c.in_err-form.field-0.0 c.in_err-form.ensures.cause in search rules

pub returns-in_err-form-clause-refused : goal.returns-in_err-form-clause-refused
returns-in_err-form-clause-refused g c =
    let found = first (goal.at.returns-in_err-form-clause-refused g c).After-form_with c.in_err-form.field-0.0 c.in_err-form.ensures.cause in
    (λ _. (c.in_err-form.field-0.0, found.applies), λ _. c.from_residual-in_err-form.ensures.0)

-- ---- the plan

module _ {g : _} (c : After-set g) where
  abbrev self : RtpPacketBuf
  self = c.args.self.now

  abbrev bytes : List ℕ
  bytes = bytes_of self

  abbrev parts : PacketParts
  parts = parts_within self

  abbrev element : Element
  element = (c.args.id, c.args.data.now)

  abbrev form : ExtensionsForm
  form = c.new-plan.result.new_form

  above : 1 ≤ element.0
  above = c.in_ok-check_element.ensures.fits.0

  short : length element.1 ≤ 255
  short = c.in_ok-check_element.ensures.fits.1

  planned : IsPlan bytes parts c.args.id c.new-plan.result
  planned = subst (λ (b : List ℕ). IsPlan b (parts_at b) c.args.id c.new-plan.result) c.as_packet-packet.ensures.bytes c.new-plan.ensures.plan

  some : allowed_form c.args.allowed (needed_form (form_of_block parts.block) element) ≡ Some form
  some =
      subst (λ (b : List ℕ). allowed_form c.args.allowed (needed_form (form_of_block (parts_at b).block) element) ≡ Some c.in_ok-form.form) c.as_packet-packet.ensures.bytes c.in_ok-form.ensures.form
      ∙ ap (λ (f : ExtensionsForm). Some f) (sym c.new-plan.ensures.form)

  writable : IsWritable form element
  writable = IsWritable-allowed (form_of_block parts.block) c.args.allowed element form above (let fits = c.ranges.id.fits in omega arith) short some

  abbrev grown : IsRewritten bytes form c.args.id (element ∷ []) → IsGrowth bytes element c.args.allowed
  grown = growth-of self element c.args.allowed above short planned.no_other form some writable

  abbrev rewritten : IsRewritten bytes form c.args.id (element ∷ [])
  rewritten =
      new-rewritten bytes parts c.args.id c.new-plan.result planned (element ∷ []) (writable, tt)
      (carried self element c.args.allowed above short planned.no_other form some writable
      parts planned.survey_is.elements planned.is_packet (are-in_packet bytes parts c.args.id c.new-plan.result planned (element ∷ []) (writable, tt)))

  to-put : (cause : NotPut) → StopsRewriting bytes (length self.buf.now) form c.args.id (element ∷ []) cause → AppliesToPut self.buf.now self.len element c.args.allowed cause
  to-put = rewriting-to_put self element c.args.allowed above short planned.no_other form some writable

  from-put : (cause : NotPut) → AppliesToPut self.buf.now self.len element c.args.allowed cause → StopsRewriting bytes (length self.buf.now) form c.args.id (element ∷ []) cause
  from-put = put-to_rewriting self element c.args.allowed above short planned.no_other form some writable

  -- the buffer, which is as it was where nothing is set in place
  same-buffer : c.set.result ≡ false → c.set.new.datagram ++ drop self.len self.buf.now ≡ self.buf.now
  same-buffer unset = ap (λ (xs : List ℕ). xs ++ drop self.len self.buf.now) (OnFalse_at unset c.set.ensures.unchanged) ∙ take-append-drop self.len self.buf.now

  -- what is set in place, in the packet and in the buffer
  set-in-place : c.set.result ≡ true → PutsElement bytes element c.args.allowed (c.set.new.datagram ++ drop self.len self.buf.now) self.len
  set-in-place set =
      let long : length bytes ≡ self.len = length-bytes self in
      PutsElement-front bytes element c.args.allowed c.set.new.datagram (drop self.len self.buf.now) self.len (sym long ∙ sym c.set.auto.datagram)
      (subst (λ (n : ℕ). PutsElement bytes element c.args.allowed c.set.new.datagram n) long (OnTrue_at set (c.set.ensures.set c.args.allowed (grown rewritten) refl)))

  -- what the buffer keeps of the packet then
  kept : (is_set : Bool) → c.set.result ≡ is_set → IsKept (c.set.new.datagram ++ drop self.len self.buf.now) self.len self.header_len self.form
  kept false unset =
      subst (λ (b : List ℕ). IsKept b self.len self.header_len self.form) (sym (same-buffer unset)) (IsKept-laid self.buf.now self.len self.header_len self.form self.room (held self))
  kept true set =
      let puts = set-in-place set in
      let sets = (c.set.ensures.answer c.args.allowed (grown rewritten) refl).0 set in
      let new : List ℕ = c.set.new.datagram ++ drop self.len self.buf.now in
      subst (λ (f : Option ExtensionsForm). IsKept new self.len self.header_len f)
      (sym puts.growth.form_is ∙ form-of self element c.args.allowed above short planned.no_other form some writable puts.growth.parts puts.growth.is_packet
      ∙ sym ((kept-parts self parts planned.is_packet).1 ∙ sets.0))
      (IsKept-new self new self.len (omega (arith, length-append c.set.new.datagram (drop self.len self.buf.now), c.set.auto.datagram, length-bytes self))
      puts.growth.parts puts.growth.form puts.body self.header_len puts.growth.is_packet puts.is_packet refl)

pub invariant_of-self : goal.invariant_of-self
invariant_of-self g c = kept (goal.at.invariant_of-self g c).After-set c.set.result refl

pub returns-then-set-clause-put : goal.returns-then-set-clause-put
returns-then-set-clause-put g c = set-in-place (goal.at.returns-then-set-clause-put g c).After-set c.if-set.true

pub returns-then-set-clause-refused : goal.returns-then-set-clause-refused
returns-then-set-clause-refused g c =
    let at = (goal.at.returns-then-set-clause-refused g c).After-set in
    let puts = set-in-place at c.if-set.true in
    let plan = planned at in
    let kept : IsRewritten (bytes at) (form at) c.args.id (element at ∷ []) =
    of-growth (self at) (element at) c.args.allowed (above at) (short at) plan.no_other (form at) (some at) (writable at) puts.growth in
    let few =
    short-kept (bytes at) c.args.id c.new-plan.result (form at) (element at ∷ []) kept (plan-of (bytes at) kept.parts c.args.id c.new-plan.result kept.is_packet plan)
    (sym puts.len_is ∙ sym (length-bytes (self at))) in
    let room = c.args.self.now.room in (
      λ wrong. absurd (false≢true wrong),
      λ fact.
          absurd (none_at_all (bytes at) (form at) c.args.id (element at ∷ []) kept few (length c.args.self.now.buf.now) (omega (arith, puts.len_is)) fact.0 (from-put at fact.0 fact.1)),
    )

-- ---- what is rewritten

pub rewrite-requires-clause-plan : goal.rewrite-requires-clause-plan
rewrite-requires-clause-plan g c =
    let at = (goal.at.rewrite-requires-clause-plan g c).After-set in
    subst (λ (b : List ℕ). IsPlan (take c.args.self.now.len b) (parts_at (take c.args.self.now.len b)) c.args.id c.new-plan.result) (sym (same-buffer at c.if-set.false)) (planned at)

pub rewrite-requires-clause-writable : goal.rewrite-requires-clause-writable
rewrite-requires-clause-writable g c = writable (goal.at.rewrite-requires-clause-writable g c).After-set

pub returns-clause-put : goal.returns-clause-put
returns-clause-put g c =
    let at = (goal.at.returns-clause-put g c).After-set in
    let new = c.rewrite.new.self in
    IfOk-weaker c.rewrite.result (λ _. RewritesBlock (bytes at) (form at) c.args.id (element at ∷ []) new.buf.now new.len) (λ _. PutsElement (bytes at) (element at) c.args.allowed new.buf.now new.len)
    (λ _ made.
    PutsElement-rewritten (self at) (element at) c.args.allowed (above at) (short at) (planned at).no_other (form at) (some at) (writable at) new.buf.now new.len made
    (λ sets. false≢true (sym c.if-set.false ∙ (c.set.ensures.answer c.args.allowed (grown at made.rewritten) refl).1 sets)))
    (subst (λ (b : List ℕ). OnOk c.rewrite.result (RewritesBlock (take c.args.self.now.len b) (form at) c.args.id (element at ∷ []) new.buf.now new.len)) (same-buffer at c.if-set.false) c.rewrite.ensures.rewritten)

pub returns-clause-behind : goal.returns-clause-behind
returns-clause-behind g c =
    subst (λ (b : List ℕ). OnOk c.rewrite.result (drop c.rewrite.new.self.len c.rewrite.new.self.buf.now ≡ drop c.rewrite.new.self.len b))
    (same-buffer (goal.at.returns-clause-behind g c).After-set c.if-set.false) c.rewrite.ensures.behind

pub returns-clause-unchanged : goal.returns-clause-unchanged
returns-clause-unchanged g c =
    let at = (goal.at.returns-clause-unchanged g c).After-set in
    IfErr-weaker c.rewrite.result _ _ (λ _ stays. record { len_is = stays.len_is; bytes_are = stays.bytes_are ∙ same-buffer at c.if-set.false }) c.rewrite.ensures.unchanged

pub returns-clause-cause : goal.returns-clause-cause
returns-clause-cause g c =
    let at = (goal.at.returns-clause-cause g c).After-set in
    cause-to _ _ (to-put at) (from-put at) c.rewrite.result
    (subst (λ (b : List ℕ). IfErr c.rewrite.result (IsFirstNotPut (StopsRewriting (take c.args.self.now.len b) (length b) (form at) c.args.id (element at ∷ [])))) (same-buffer at c.if-set.false) c.rewrite.ensures.cause)

pub returns-clause-refused : goal.returns-clause-refused
returns-clause-refused g c =
    let at = (goal.at.returns-clause-refused g c).After-set in
    let P : List ℕ → Type 0 = λ b. IsErr c.rewrite.result ↔ ((cause : NotPut) × StopsRewriting (take c.args.self.now.len b) (length b) (form at) c.args.id (element at ∷ []) cause) in
    let refused : P c.args.self.now.buf.now = subst P (same-buffer at c.if-set.false) c.rewrite.ensures.refused in
    (λ wrong. let fact = refused.0 wrong in (fact.0, to-put at fact.0 fact.1), λ fact. refused.1 (fact.0, from-put at fact.0 fact.1))
