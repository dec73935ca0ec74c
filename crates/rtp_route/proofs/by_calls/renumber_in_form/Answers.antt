use Rattle.std.proofs.Common.{◌≡◌, ◌≤◌, ℕ, List, [], length, length-take-le, take, Some, refl, sym, subst, arith, take_at}
use Rattle.std.proofs.lemmas.Bool.{false≢true}
use Rattle.std.proofs.lemmas.Result.{err_from_is_err_and}
use Rattle.rtp_ext.specs.declared.form.ExtensionsForm.TheVariants.{OneByte, TwoByte}
use Rattle.rtp_ext.specs.NewIds.{new_id}
use Rattle.rtp_wire.specs.PartsAt.{HasLayout}
use Rattle.rtp_wire.specs.PutIntoPacket.{IsFirstNotPut}
use Rattle.rtp_wire.specs.RemadeBlock.{RemakesBlock, KeepsFromForm}
use Rattle.rtp_route.specs.declared.not_routed.NotRouted.TheVariants.{NotPut}
use Rattle.rtp_route.specs.Calls.{IsUnderNewIds, IsChangedAndRenumbered, in_own_form, in_two_byte_form}
use Rattle.rtp_route.specs.NotRouted.{KeepsFromNewIds}
use Rattle.rtp_route.proofs.NewFormLemmas.{kept-front, no-payload, narrow-layout, layout-now, changed-and-renumbered, none-long, none-new_ids}
use Rattle.rtp_route.proofs.by_calls.renumber_in_form.Goals as goal

pub renumber-requires : goal.renumber-requires
renumber-requires c = subst (λ (n : ℕ). HasLayout (take c.args.len c.args.buf.now) n c.args.form) (sym (length-take-le c.args.len c.args.buf.now c.requires.within)) c.requires.held

pub returns-then-renumber-clause-renumbered : goal.returns-then-renumber-clause-renumbered
returns-then-renumber-clause-renumbered c parts elements is are =
    let bytes : List ℕ = take c.args.len c.args.buf.now in
    let long : length c.renumber.new.header ≡ c.args.len = omega (arith, c.renumber.auto.header, length-take-le c.args.len c.args.buf.now c.requires.within) in
    in_own_form ((c.if-renumber.ensures.carried parts elements is are).0 refl)
    (subst (IsUnderNewIds (new_id c.args.ids.now) elements bytes parts) (sym (take_at c.renumber.new.header _ c.args.len long)) (c.if-renumber.ensures.renumbered parts elements is are))

pub returns-then-renumber-clause-none_refused : goal.returns-then-renumber-clause-none_refused
returns-then-renumber-clause-none_refused c =
    none-long (take c.args.len c.args.buf.now) (new_id c.args.ids.now) c.args.allowed (length c.args.buf.now)
    (λ long. long.not_carried ((c.if-renumber.ensures.carried long.parts long.elements long.is_packet long.are_elements).0 refl))

pub returns-then-is_one_byte_only-clause-cause : goal.returns-then-is_one_byte_only-clause-cause
returns-then-is_one_byte_only-clause-cause c = (c.if-renumber.ensures.long, c.if-is_one_byte_only.ensures.0 refl)

pub change_form-requires-clause-held : goal.change_form-requires-clause-held
change_form-requires-clause-held c =
    let same = kept-front c.args.buf.now c.renumber.new.header c.args.len c.if-renumber.ensures.unchanged in
    subst (λ (b : List ℕ). HasLayout (take c.args.len b) c.args.len (Some OneByte)) (sym same)
    (narrow-layout (new_id c.args.ids.now) c.known_ids.ensures.each (take c.args.len c.args.buf.now) c.args.len c.args.form c.requires.held c.if-renumber.ensures.long)

pub returns-in_err-new_len-clause-cause : goal.returns-in_err-new_len-clause-cause
returns-in_err-new_len-clause-cause c =
    let same = kept-front c.args.buf.now c.renumber.new.header c.args.len c.if-renumber.ensures.unchanged in
    let cause = c.in_err-new_len.field-0.0 in
    let kept : KeepsFromNewIds (take c.args.len c.args.buf.now) (new_id c.args.ids.now) c.args.allowed (length c.args.buf.now) (NotPut cause) = record {
      long = c.if-renumber.ensures.long;
      is_allowed = λ narrow_is. false≢true (c.if-is_one_byte_only.ensures.1 narrow_is);
      cause_is = subst (λ (b : List ℕ). IsFirstNotPut (KeepsFromForm (take c.args.len b) (length b) (Some OneByte) TwoByte) cause) same c.in_err-new_len.ensures.cause;
    } in
    let p = err_from_is_err_and c.from_residual.result c.from_residual.ensures.1 in
    rw (p.1, p.2) kept

-- the block that was made anew
pub renumber-requires-2 : goal.renumber-requires-2
renumber-requires-2 c =
    let bytes : List ℕ = take c.args.len c.args.buf.now in
    let same = kept-front c.args.buf.now c.renumber.new.header c.args.len c.if-renumber.ensures.unchanged in
    let after = c.change_form.new.buf in
    let new_len = c.in_ok-new_len.new_len in
    let changed : RemakesBlock bytes TwoByte [] after new_len = subst (λ (b : List ℕ). RemakesBlock (take c.args.len b) TwoByte [] after new_len) same c.in_ok-new_len.ensures.changed in
    let long = c.if-renumber.ensures.long in
    layout-now (new_id c.args.ids.now) c.known_ids.ensures.each c.known_ids.ensures.zero c.args.allowed bytes after [] new_len long.parts long.elements long.is_packet long.are_elements
    long.not_carried (λ narrow_is. false≢true (c.if-is_one_byte_only.ensures.1 narrow_is)) changed (no-payload bytes c.args.form
    (subst (λ (n : ℕ). HasLayout bytes n c.args.form) (sym (length-take-le c.args.len c.args.buf.now c.requires.within)) c.requires.held) long.parts long.is_packet)

pub returns-clause-renumbered : goal.returns-clause-renumbered
returns-clause-renumbered c parts elements is are =
    let ids = new_id c.args.ids.now in
    let bytes : List ℕ = take c.args.len c.args.buf.now in
    let same = kept-front c.args.buf.now c.renumber.new.header c.args.len c.if-renumber.ensures.unchanged in
    let after = c.change_form.new.buf in
    let new_len = c.in_ok-new_len.new_len in
    let changed : RemakesBlock bytes TwoByte [] after new_len = subst (λ (b : List ℕ). RemakesBlock (take c.args.len b) TwoByte [] after new_len) same c.in_ok-new_len.ensures.changed in
    let new = c.renumber-2.new.header in
    let made : IsChangedAndRenumbered c.args.allowed ids elements bytes parts new =
    changed-and-renumbered ids c.known_ids.ensures.each c.known_ids.ensures.zero c.args.allowed bytes after new new_len parts elements is are
    (λ carried. false≢true ((c.if-renumber.ensures.carried parts elements is are).1 carried)) (λ narrow_is. false≢true (c.if-is_one_byte_only.ensures.1 narrow_is)) changed c.renumber-2.result
    c.renumber-2.ensures.carried c.renumber-2.ensures.renumbered in
    let fits : new_len ≤ length after = omega (arith, c.in_ok-new_len.ensures.within, c.change_form.auto.buf) in
    in_two_byte_form (subst (IsChangedAndRenumbered c.args.allowed ids elements bytes parts)
    (sym (take_at new _ new_len (omega (arith, c.renumber-2.auto.header, length-take-le new_len after fits)))) made)

pub returns-clause-none_refused : goal.returns-clause-none_refused
returns-clause-none_refused c =
    let same = kept-front c.args.buf.now c.renumber.new.header c.args.len c.if-renumber.ensures.unchanged in
    none-new_ids (take c.args.len c.args.buf.now) (new_id c.args.ids.now) c.args.allowed (length c.args.buf.now) (λ narrow_is. false≢true (c.if-is_one_byte_only.ensures.1 narrow_is))
    (λ cause fact. c.in_ok-new_len.ensures.none_refused cause (subst (λ (b : List ℕ). KeepsFromForm (take c.args.len b) (length b) (Some OneByte) TwoByte cause) (sym same) fact))
