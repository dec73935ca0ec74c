use Rattle.rtp_c.proofs.Common.{Option, sym, subst, ◌∙◌, length, ExtensionsForm}
use Rattle.rtp_c.specs.WrittenHeader.{CanBeWrittenWith, IsTooLongWith}
use Rattle.rtp_c.proofs.WritingLemmas.{one_allowed, passed_on}
use Rattle.rtp_c.proofs.writing.rtpw_write_with_form.Goals as goal

pub returns-in-Some-clause-written : goal.returns-in-Some-clause-written
returns-in-Some-clause-written c is_ok = (c.in-Some.allowed, c.in-Some.ensures.found, c.write_header_with.ensures.written (passed_on c.write_header_with.result c.write_header_with.ensures.statuses ∙ is_ok))

pub returns-in-Some-clause-short : goal.returns-in-Some-clause-short
returns-in-Some-clause-short c =
    let same = passed_on c.write_header_with.result c.write_header_with.ensures.statuses in (
      λ is_short. (c.in-Some.allowed, c.in-Some.ensures.found, c.write_header_with.ensures.short.0 (same ∙ is_short)),
      λ too. sym same ∙ c.write_header_with.ensures.short.1
          (subst (λ (a : Option ExtensionsForm). IsTooLongWith a c.args.header.now c.args.bytes.now c.args.elements.now (length c.args.buf.now))
          (one_allowed too.0 c.in-Some.allowed (too.1 ∙ sym c.in-Some.ensures.found)) too.2),
    )

pub returns-in-Some-clause-bad_field : goal.returns-in-Some-clause-bad_field
returns-in-Some-clause-bad_field c =
    let same = passed_on c.write_header_with.result c.write_header_with.ensures.statuses in (
      λ is_bad allowed is header can. c.write_header_with.ensures.bad_field.0 (same ∙ is_bad) header
          (subst (λ (a : Option ExtensionsForm). CanBeWrittenWith a c.args.header.now c.args.bytes.now c.args.elements.now header)
          (one_allowed allowed c.in-Some.allowed (is ∙ sym c.in-Some.ensures.found)) can),
      λ none. sym same ∙ c.write_header_with.ensures.bad_field.1 (none c.in-Some.allowed c.in-Some.ensures.found),
    )
