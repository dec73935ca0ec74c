use Rattle.rtp_ext.proofs.Common.{◌≡◌, ◌||◌, Bool, ap, refl, sym, ◌∙◌, subst, lt-ltb, le-ltb, nat_lt, list_any, Slots, IsLastId, items_from, is_long_item, has_long_data, slots_of, known_slots}
use Rattle.rtp_ext.proofs.KnownItemsLemmas.{long_split}
use Rattle.rtp_ext.proofs.map.kinds.ExtensionMapKinds.has_long.Goals as goal

pub returns-then-self-gt-MAX_ID_ONE_BYTE_FORM : goal.returns-then-self-gt-MAX_ID_ONE_BYTE_FORM
returns-then-self-gt-MAX_ID_ONE_BYTE_FORM c =
    let is : list_any is_long_item (items_from 0 c.args.self.now) ≡ (nat_lt 14 c.self.inside.last || list_any has_long_data (items_from 0 (known_slots c.args.self.now))) =
    long_split (known_slots c.args.self.now) (subst (λ (s : Slots). IsLastId s c.self.inside.last) c.self.view_is c.self.invariant.1) refl in
    let high = lt-ltb 14 c.self.inside.last c.if-self-gt-MAX_ID_ONE_BYTE_FORM.true in
    high ∙ sym (is ∙ ap (λ (b : Bool). b || list_any has_long_data (items_from 0 (known_slots c.args.self.now))) high)

pub returns-else-self-gt-MAX_ID_ONE_BYTE_FORM : goal.returns-else-self-gt-MAX_ID_ONE_BYTE_FORM
returns-else-self-gt-MAX_ID_ONE_BYTE_FORM c =
    let is : list_any is_long_item (items_from 0 c.args.self.now) ≡ (nat_lt 14 c.self.inside.last || list_any has_long_data (items_from 0 (slots_of c.self.inside.kinds))) =
    long_split (slots_of c.self.inside.kinds) (subst (λ (s : Slots). IsLastId s c.self.inside.last) c.self.view_is c.self.invariant.1)
    (c.self.invariant.2 ∙ ap known_slots c.self.view_is) in
    let low = le-ltb 14 c.self.inside.last c.if-self-gt-MAX_ID_ONE_BYTE_FORM.false in
    c.has_layers.ensures ∙ sym (is ∙ ap (λ (b : Bool). b || list_any has_long_data (items_from 0 (slots_of c.self.inside.kinds))) low)
