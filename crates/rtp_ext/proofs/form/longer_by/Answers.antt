use Rattle.rtp_ext.proofs.Common.{ap, ◌∙◌, ◌+◌, length, OneByte, elements_bytes}
use Rattle.rtp_ext.proofs.ServingFormLemmas.{length-two}
use Rattle.rtp_ext.proofs.form.longer_by.Goals as goal

pub returns-in-TwoByte : goal.returns-in-TwoByte
returns-in-TwoByte c elements count =
    rw c.in-TwoByte.is (length-two elements ∙ ap (λ n. length (elements_bytes OneByte elements) + n) count)
