use Rattle.rtp_c.proofs.Common.{◌≡◌, ℕ, length, take, sym, ap, ◌∙◌, rules, le-ltb, true_from_ne_false, false≢true, items_from, numbered_slots}
use Rattle.rtp_c.proofs.LongLemmas.{same_when_false, no_layers, no_high_kind, none_long, few_long, looked_layers, layers_looked, looked_high, high_looked}
use Rattle.rtp_c.proofs.WalkLemmas.{last_end-low}
use Rattle.rtp_c.proofs.kinds.StoredMapKinds.has_long.Goals as goal

pub returns-then-has_number : goal.returns-then-has_number
returns-then-has_number c =
    let numbers = c.args.self.now.kind in
    c.if-has_number.true
    ∙ sym (true_from_ne_false _ (λ none. false≢true (sym (c.has_number.ensures.1 (looked_layers numbers (no_layers numbers none))) ∙ c.if-has_number.true)))

pub returns-then-end-gt-LOW_SLOTS : goal.returns-then-end-gt-LOW_SLOTS
returns-then-end-gt-LOW_SLOTS c =
    let numbers = c.args.self.now.kind in
    let many : length numbers ≡ 256 = search rules in
    let layers = layers_looked numbers many (c.has_number.ensures.0 c.if-has_number.false) in
    same_when_false c.has_kind.result _ (λ none. none_long numbers many layers (high_looked numbers many (c.has_kind.ensures.0 none)))
    (λ none. c.has_kind.ensures.1 (looked_high numbers (no_high_kind numbers none)))

pub returns-else-end-gt-LOW_SLOTS : goal.returns-else-end-gt-LOW_SLOTS
returns-else-end-gt-LOW_SLOTS c =
    let numbers = c.args.self.now.kind in
    let many : length numbers ≡ 256 = search rules in
    let low = c.if-end-gt-LOW_SLOTS.false in
    let walk = sym (ap (λ (end : ℕ). items_from 0 (take end (numbered_slots numbers))) (last_end-low c.args.end low)) ∙ c.requires.all in
    le-ltb 14 c.args.end low
    ∙ sym (few_long numbers c.args.end low walk (layers_looked numbers many (c.has_number.ensures.0 c.if-has_number.false)))
