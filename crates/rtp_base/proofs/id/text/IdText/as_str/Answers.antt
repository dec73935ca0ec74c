use Rattle.rtp_base.proofs.Common.{ℕ, List, take, sym, ap, ◌∙◌, subst, position_or_len, IsIdOf}
use Rattle.rtp_base.proofs.IdLemmas.{IsUtf8-text, IsIdOf-text, is_space}
use Rattle.rtp_base.proofs.id.text.IdText.as_str.Goals as goal

pub from_utf8_unchecked-requires : goal.from_utf8_unchecked-requires
from_utf8_unchecked-requires g c =
    IsUtf8-text c.self.inside.bytes c.len.result (c.len.ensures.index ∙ ap (position_or_len is_space) (sym c.self.view_is)) c.self.invariant

pub returns-clause-back : goal.returns-clause-back
returns-clause-back g c =
    let id = c.self.inside.bytes in
    subst (IsIdOf g.row.N c.from_utf8_unchecked.result.now) c.self.view_is
    (subst (λ (text : List ℕ). IsIdOf g.row.N text id)
    (ap (λ (k : ℕ). take k id) (sym (c.len.ensures.index ∙ ap (position_or_len is_space) (sym c.self.view_is))) ∙ sym c.from_utf8_unchecked.ensures)
    (IsIdOf-text g.row.N id c.self.told c.self.invariant))
