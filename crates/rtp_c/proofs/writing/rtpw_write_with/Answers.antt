use Rattle.std.proofs.Common.{sym, ◌∙◌}
use Rattle.rtp_c.proofs.WritingLemmas.{passed_on}
use Rattle.rtp_c.proofs.writing.rtpw_write_with.Goals as goal

pub returns-clause-short : goal.returns-clause-short
returns-clause-short c =
    let same = passed_on c.write_header_with.result c.write_header_with.ensures.statuses in (
      λ is_short. c.write_header_with.ensures.short.0 (same ∙ is_short),
      λ too. sym same ∙ c.write_header_with.ensures.short.1 too,
    )

pub returns-clause-bad_field : goal.returns-clause-bad_field
returns-clause-bad_field c =
    let same = passed_on c.write_header_with.result c.write_header_with.ensures.statuses in (
      λ is_bad. c.write_header_with.ensures.bad_field.0 (same ∙ is_bad),
      λ none. sym same ∙ c.write_header_with.ensures.bad_field.1 none,
    )
