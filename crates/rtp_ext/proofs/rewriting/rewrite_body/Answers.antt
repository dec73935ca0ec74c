use Rattle.rtp_ext.proofs.Common.{◌≡◌, ℕ, ◌+◌, ◌-◌, ◌≤◌, List, [], ◌++◌, length, take, arith, refl, sym, ◌∙◌, subst, ExtensionsForm, Element, AreElements, AllByRecursion, IsWritable, elements_bytes, StandInRows, other_form, others, rewritten_elements, row_to, ended}
use Rattle.rtp_ext.specs.ElementsInARow.{elements_added}
use Rattle.rtp_ext.proofs.AnewLemmas.{row_to-zeros}
use Rattle.rtp_ext.proofs.ElementLemmasOfBodies.{AreElements-tail}
use Rattle.rtp_ext.proofs.LastPlaceLemmas.{AreElements-same}
use Rattle.rtp_ext.proofs.RowFormLemmas.{each_element}
use Rattle.rtp_ext.proofs.WrittenElementsLemmas.{AreElements-in_a_row}
use Rattle.rtp_ext.proofs.RewrittenLemmas.{put_is, rows-stay, rows_for, len-between, row-between}
use Rattle.rtp_ext.proofs.rewriting.rewrite_body.Goals as goal
use Rattle.rtp_ext.proofs.rewriting.rewrite_body.Goals.{Joined-changes_form, then-changes_form, else-changes_form}

-- what a row is read as
elements-row : (form : ExtensionsForm) (all : List Element) (len : ℕ) {body : List ℕ} → body ≡ row_to form all len → AllByRecursion (IsWritable form) all → AreElements form body all
elements-row form all len is each =
    subst (λ (b : List ℕ). AreElements form b all) (sym is) (AreElements-in_a_row form all (len - length (elements_bytes form all)) (each_element form all each))

-- ---- a body of no bytes

none : (form : ExtensionsForm) (body : List ℕ) (n : ℕ) → n ≡ 0 → AreElements form (take n body) []
none form body n is = subst (λ (k : ℕ). AreElements form (take k body) []) (sym is) (AreElements-tail form [] (ended refl))

pub put_alone-requires-clause-room : goal.put_alone-requires-clause-room
put_alone-requires-clause-room c = c.requires.room [] (none c.args.form c.args.body.now c.args.body_len c.if-body_len-eq0.true)

pub returns-then-body_len-eq0-clause-row : goal.returns-then-body_len-eq0-clause-row
returns-then-body_len-eq0-clause-row c = λ elements are.
    let are_none = none c.args.form c.args.body.now c.args.body_len c.if-body_len-eq0.true in
    subst (λ (es : List Element). c.put_alone.new.body ≡ row_to c.args.new_form (rewritten_elements c.args.goes (elements_added c.args.comes) es) (length c.args.body.now))
    (sym (AreElements-same c.args.form (take c.args.body_len c.args.body.now) elements [] are are_none)) c.put_alone.ensures

pub returns-then-body_len-eq0-clause-elements : goal.returns-then-body_len-eq0-clause-elements
returns-then-body_len-eq0-clause-elements c = λ elements are.
    elements-row c.args.new_form _ (length c.args.body.now) (returns-then-body_len-eq0-clause-row c elements are) (c.requires.carried elements are)

-- ---- the elements that stay, and what comes

pub change_rows-front-requires : goal.change_rows-front-requires
change_rows-front-requires c =
    rows_for c.args.form c.args.new_form c.args.body.now c.put_in_rows-front.new.body c.args.body_len c.args.goes c.args.survey.now c.around-start.result.0 c.around-start.result.1
    c.put_in_rows-front.result.0 c.put_in_rows-front.result.1 c.requires.within c.requires.survey c.around-start.ensures.start c.around-start.ensures.end c.put_in_rows-front.ensures
    (elements_added c.args.comes) c.requires.carried c.requires.room (other_form c.args.form) c.if-changes_form.ensures.changes

-- the rows, in the new form
rows : (c : Joined-changes_form) → StandInRows c.args.new_form (others c.args.goes c.put_in_rows-front.ensures.before) (others c.args.goes c.put_in_rows-front.ensures.after)
    c.if-changes_form.body c.if-changes_form.front.0 c.if-changes_form.front.1 c.if-changes_form.front.2
rows c =
    let xs = others c.args.goes c.put_in_rows-front.ensures.before in
    let ys = others c.args.goes c.put_in_rows-front.ensures.after in
    elim c.if-changes_form.branch [
      | then-changes_form w ↦
          let is = w.if-changes_form.ensures.changes in
          let changed = w.change_rows-front.ensures
          (rows_for c.args.form c.args.new_form c.args.body.now c.put_in_rows-front.new.body c.args.body_len c.args.goes c.args.survey.now c.around-start.result.0 c.around-start.result.1
          c.put_in_rows-front.result.0 c.put_in_rows-front.result.1 c.requires.within c.requires.survey c.around-start.ensures.start c.around-start.ensures.end c.put_in_rows-front.ensures
          (elements_added c.args.comes) c.requires.carried c.requires.room (other_form c.args.form) is) in
          subst (λ (f : ExtensionsForm). StandInRows f xs ys c.if-changes_form.body c.if-changes_form.front.0 c.if-changes_form.front.1 c.if-changes_form.front.2) (sym is)
          (subst (λ (b : List ℕ). StandInRows (other_form c.args.form) xs ys b c.if-changes_form.front.0 c.if-changes_form.front.1 c.if-changes_form.front.2) (sym w.body-is)
          (subst (λ at. StandInRows (other_form c.args.form) xs ys w.change_rows-front.new.body at.0 at.1 at.2) (sym w.front-is) changed))
      | else-changes_form w ↦
          subst (λ (b : List ℕ). StandInRows c.args.new_form xs ys b c.if-changes_form.front.0 c.if-changes_form.front.1 c.if-changes_form.front.2) (sym w.body-is)
          (subst (λ at. StandInRows c.args.new_form xs ys c.put_in_rows-front.new.body at.0 at.1 at.2) (sym w.front-is)
          (rows-stay c.args.form c.args.new_form c.args.body.now c.put_in_rows-front.new.body c.args.body_len c.args.goes c.args.survey.now c.around-start.result.0 c.around-start.result.1
          c.put_in_rows-front.result.0 c.put_in_rows-front.result.1 c.requires.within c.requires.survey c.around-start.ensures.start c.around-start.ensures.end c.put_in_rows-front.ensures
          w.if-changes_form.ensures.stays))
    ]

among : (c : Joined-changes_form) (elements : List Element) → AreElements c.args.form (take c.args.body_len c.args.body.now) elements
    → rewritten_elements c.args.goes (elements_added c.args.comes) elements
    ≡ others c.args.goes c.put_in_rows-front.ensures.before ++ (elements_added c.args.comes ++ others c.args.goes c.put_in_rows-front.ensures.after)
among c elements are =
    put_is c.args.form c.args.new_form c.args.body.now c.put_in_rows-front.new.body c.args.body_len c.args.goes c.args.survey.now c.around-start.result.0 c.around-start.result.1
    c.put_in_rows-front.result.0 c.put_in_rows-front.result.1 c.requires.within c.requires.survey c.around-start.ensures.start c.around-start.ensures.end c.put_in_rows-front.ensures
    elements are (elements_added c.args.comes)

pub put_between-len-requires-clause-order : goal.put_between-len-requires-clause-order
put_between-len-requires-clause-order c = (rows (goal.at.put_between-len-requires-clause-order c).Joined-changes_form).order

pub put_between-len-requires-clause-within : goal.put_between-len-requires-clause-within
put_between-len-requires-clause-within c = (rows (goal.at.put_between-len-requires-clause-within c).Joined-changes_form).within

-- how many bytes the elements take
long : (c : Joined-changes_form) (elements : List Element) → AreElements c.args.form (take c.args.body_len c.args.body.now) elements
    → c.if-changes_form.front.0 + length (elements_bytes c.args.new_form (elements_added c.args.comes)) + c.if-changes_form.front.2
    ≡ length (elements_bytes c.args.new_form (rewritten_elements c.args.goes (elements_added c.args.comes) elements))
long c elements are = len-between (elements_added c.args.comes) (among c elements are) (rows c)

fits : (c : Joined-changes_form) → c.if-changes_form.front.0 + length (elements_bytes c.args.new_form (elements_added c.args.comes)) + c.if-changes_form.front.2 ≤ length c.if-changes_form.body
fits c =
    let s = c.requires.survey in
    omega (arith, c.requires.room s.elements s.are_elements, long c s.elements s.are_elements, c.if-changes_form.auto.body, c.put_in_rows-front.ensures.length_is)

pub put_between-len-requires-clause-room : goal.put_between-len-requires-clause-room
put_between-len-requires-clause-room c = fits (goal.at.put_between-len-requires-clause-room c).Joined-changes_form

pub clear_after-requires : goal.clear_after-requires
clear_after-requires c = omega (arith, fits (goal.at.clear_after-requires c).Joined-changes_form, c.put_between-len.ensures.end, c.put_between-len.auto.body)

pub returns-clause-row : goal.returns-clause-row
returns-clause-row c = λ elements are.
    let j = (goal.at.returns-clause-row c).Joined-changes_form in
    let row = c.put_between-len.ensures.row
    ∙ row-between (elements_added c.args.comes) (among j elements are) (rows j) in
    let all : length c.put_between-len.new.body ≡ length c.args.body.now = omega (arith, c.put_between-len.auto.body, c.if-changes_form.auto.body, c.put_in_rows-front.ensures.length_is) in
    c.clear_after.ensures
    ∙ row_to-zeros c.args.new_form (rewritten_elements c.args.goes (elements_added c.args.comes) elements) c.put_between-len.new.body all row
    (c.put_between-len.ensures.end ∙ long j elements are) (omega (arith, fits j, c.put_between-len.ensures.end, all, c.put_between-len.auto.body))

pub returns-clause-elements : goal.returns-clause-elements
returns-clause-elements c = λ elements are.
    elements-row c.args.new_form _ (length c.args.body.now) (returns-clause-row c elements are) (c.requires.carried elements are)
