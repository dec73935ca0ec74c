use Rattle.std.proofs.Common.{sym}
use Rattle.rtp_c.proofs.GivenValuesLemmas.{text_in-first, text_in-whole}
use Rattle.rtp_c.proofs.given.text_in.Goals as goal

pub returns-in-Some : goal.returns-in-Some
returns-in-Some c =
    let found = c.in-Some.ensures.found in
    sym (text_in-first c.args.bytes.now c.in-Some.len (record { within = found.0; zero = found.1; before = found.2 }))

pub returns-in-None : goal.returns-in-None
returns-in-None c = sym (text_in-whole c.args.bytes.now c.in-None.ensures.none)
