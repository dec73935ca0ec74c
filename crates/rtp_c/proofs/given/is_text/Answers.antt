use Rattle.std.proofs.Common.{sym, subst}
use Rattle.std.proofs.lemmas.Bool.{false≢true}
use Rattle.rtp_c.specs.Given.{IsTextIn, text_in}
use Rattle.rtp_c.proofs.GivenLemmas.{IsFirstZero, IsTextIn-first, all-text, no_text}
use Rattle.rtp_c.proofs.GivenValuesLemmas.{text_in-first}
use Rattle.rtp_c.proofs.given.is_text.Goals as goal

pub returns-in-Some : goal.returns-in-Some
returns-in-Some c =
    let bytes = c.args.bytes.now in
    let found = c.in-Some.ensures.found in
    let first : IsFirstZero bytes c.in-Some.len = record { within = found.0; zero = found.1; before = found.2 } in (
      λ all. subst (IsTextIn bytes) (sym (text_in-first bytes c.in-Some.len first)) (IsTextIn-first bytes c.in-Some.len first (c.are_id_bytes.ensures.0 all)),
      λ is. c.are_id_bytes.ensures.1 (all-text bytes (text_in bytes) c.in-Some.len is first),
    )

pub returns-in-None : goal.returns-in-None
returns-in-None c = (λ is. absurd (false≢true is), λ is. absurd (no_text c.args.bytes.now (text_in c.args.bytes.now) c.in-None.ensures.none is))
