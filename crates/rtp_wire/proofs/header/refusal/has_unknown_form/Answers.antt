use Rattle.rtp_wire.proofs.Common.{◌≡◌, ℕ, Bool, true, false, not, Option, Some, None, is_some, drop, refl, sym, ap, ◌∙◌, false≢true, ExtensionsForm, word_at, sources_end, form_of_word}
use Rattle.rtp_wire.proofs.AnyBlockLemmas.{word-after}
use Rattle.rtp_wire.proofs.HeaderFound.{found-form_of_word}
use Rattle.rtp_wire.proofs.PacketLemmas.{no_form_of_word, IsNoFormWord-form_of_word}
use Rattle.rtp_wire.proofs.header.refusal.has_unknown_form.Goals as goal
use Rattle.rtp_wire.proofs.header.refusal.has_unknown_form.Goals.{After-is_none}

-- the form that is looked for is that of the word after the sources
found_is : (c : After-is_none) → c.parse.result ≡ form_of_word (word_at (drop (sources_end c.args.datagram.now) c.args.datagram.now) 0)
found_is c =
    let bytes = c.args.datagram.now in
    found-form_of_word _ c.parse.result c.parse.ensures.found c.parse.ensures.only
    ∙ ap form_of_word (sym (word-after bytes c.sources_end-start.result) ∙ ap (λ (k : ℕ). word_at (drop k bytes) 0) c.sources_end-start.ensures)

-- the test tells whether there is none
told : (found : Option ExtensionsForm) (none : Bool) → is_some found ≡ not none → none ≡ true → found ≡ None
told None none is set = refl
told (Some form) none is set = absurd (false≢true (sym (is ∙ ap not set)))

tells : (found : Option ExtensionsForm) (none : Bool) → is_some found ≡ not none → found ≡ None → none ≡ true
tells found true is none = refl
tells found false is none = absurd (false≢true (sym (ap is_some none) ∙ is))

pub returns : goal.returns
returns c =
    let word = word_at (drop (sources_end c.args.datagram.now) c.args.datagram.now) 0 in (
      λ set. (c.requires.block, IsNoFormWord-form_of_word word (sym (found_is c) ∙ told c.parse.result c.is_none.result c.is_none.ensures set)),
      λ unknown. tells c.parse.result c.is_none.result c.is_none.ensures (found_is c ∙ no_form_of_word word unknown.1),
    )
