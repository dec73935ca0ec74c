use Rattle.rtp_c.proofs.Common.{refl, sym, ◌∙◌, parts_of, header_there, none_there}
use Rattle.rtp_c.proofs.HeaderStatusLemmas.{IsHeaderStatus-other}
use Rattle.rtp_c.proofs.header.packet_in.Goals as goal

pub returns-then-has_other_form-clause-cause : goal.returns-then-has_other_form-clause-cause
returns-then-has_other_form-clause-cause c =
    IsHeaderStatus-other c.args.buf.now (parts_of c.in-Ok.packet) _ c.in-Ok.ensures.found refl (sym c.has_other_form.ensures ∙ c.if-has_other_form.true)

pub returns-clause-refused : goal.returns-clause-refused
returns-clause-refused c none =
    absurd (header_there c.args.buf.now (parts_of c.in-Ok.packet) c.in-Ok.ensures.found (none_there _ (sym c.has_other_form.ensures ∙ c.if-has_other_form.false)) none)
