use Rattle.rtp_ext.proofs.Common.{◌≡◌, length, sym, ap, ◌∙◌, inl, inr, ◌⊎◌, Element, AreElements, elements_bytes, others, List}
use Rattle.rtp_ext.proofs.LastPlaceLemmas.{AreElements-same}
use Rattle.rtp_ext.proofs.RewrittenLemmas.{others-writable, stays-bytes, stays-writable}
use Rattle.rtp_ext.proofs.AroundLemmas.{read_elements}
use Rattle.rtp_ext.proofs.rewriting.others_len.Goals as goal
use Rattle.rtp_ext.proofs.rewriting.others_len.Goals.{Else-changes_form}

pub returns-then-changes_form-clause-length : goal.returns-then-changes_form-clause-length
returns-then-changes_form-clause-length c = λ elements are.
    c.row_len.ensures.length elements (read_elements c.requires.survey elements are)

pub returns-then-changes_form-clause-carried : goal.returns-then-changes_form-clause-carried
returns-then-changes_form-clause-carried c = λ elements are.
    c.row_len.ensures.carried elements (read_elements c.requires.survey elements are)

pub returns-then-changes_form-clause-none : goal.returns-then-changes_form-clause-none
returns-then-changes_form-clause-none c = λ elements are.
    c.row_len.ensures.none elements (read_elements c.requires.survey elements are)

counted : (c : Else-changes_form) (elements : List Element) → AreElements c.args.form c.args.body.now elements → c.args.survey.now.others_len ≡ length (elements_bytes c.args.form (others c.args.goes elements))
counted c elements are =
    let s = c.requires.survey in
    s.others_are ∙ ap (λ es. length (elements_bytes c.args.form (others c.args.goes es))) (AreElements-same c.args.form c.args.body.now s.elements elements s.are_elements are)

stays : (c : Else-changes_form) (elements : List Element) → AreElements c.args.form c.args.body.now elements
    → (c.args.new_form ≡ c.args.form) ⊎ (length (elements_bytes c.args.form (others c.args.goes elements)) ≡ 0)
stays c elements are = elim c.if-changes_form.ensures.stays [
  | inl same ↦ inl same
  | inr none ↦ inr (sym (counted c elements are) ∙ none)
]

pub returns-clause-length : goal.returns-clause-length
returns-clause-length c = λ elements are.
    counted c elements are ∙ ap length (sym (stays-bytes c.args.form c.args.new_form (others c.args.goes elements) (stays c elements are)))

pub returns-clause-carried : goal.returns-clause-carried
returns-clause-carried c = λ elements are.
    stays-writable c.args.form c.args.new_form (others c.args.goes elements) (stays c elements are) (others-writable c.args.goes are)
