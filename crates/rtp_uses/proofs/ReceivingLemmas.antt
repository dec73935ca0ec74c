-- The verdicts on the first packet of a source, and on the one that was sent before it.
use Rattle.std.proofs.Common.{◌≡◌, ℕ, ◌+◌, ◌*◌, ◌%◌, ◌^◌, ◌<◌, false, sym, refl, ap, ◌∙◌, subst, inl, inr, arith}
use Rattle.std.specs.Prelude.{Option, Some, None}
use Rattle.std.proofs.lemmas.Bool.{false≢true, ne_eqb}
use Rattle.rtp_base.specs.Window.{Numbers, including}
use Rattle.rtp_ext.specs.declared.map.ExtensionMap.{ExtensionMap}
use Rattle.rtp_wire.specs.declared.header.rtp_header.RtpHeader.{RtpHeader}
use Rattle.rtp_receive.specs.declared.receiver.Verdict.{Verdict}
use Rattle.rtp_receive.specs.declared.receiver.Verdict.TheVariants.{Unreadable, Taken, Refused}
use Rattle.rtp_receive.specs.Receiver.{IsNothing, IsHighest, ExtendsFrom, IsNumberOf, IsFresh, IsJudged}
use Rattle.rtp_wire.specs.Written.{image_of}
use Rattle.rtp_receive.proofs.TrueNumberLemmas.{one_highest, greatest_of_none}
use Rattle.rtp_receive.proofs.NearestLemmas.{only_near, Extends-within_half}

number_of_none : (count : ℕ) (taken : Numbers) (highest : Option ℕ) (low number : ℕ) → IsNothing taken → IsHighest taken highest → ExtendsFrom count highest low number → number ≡ 65536 * count + low % 65536
number_of_none count taken None low number none is near = near
number_of_none count taken (Some highest) low number none is near = absurd (false≢true (sym (none highest) ∙ is.member))

-- where nothing is taken yet, a packet is taken by the number in its header and the rollover count
pub first_taken : (count : ℕ) (taken : Numbers) (low : ℕ) (verdict : Verdict) → IsNothing taken → (number : ℕ) × IsNumberOf count taken low number × IsJudged taken number verdict → verdict ≡ Taken (65536 * count + low % 65536)
first_taken count taken low (Taken n) none judged = ap Taken (judged.2.0 ∙ number_of_none count taken judged.1.0 low judged.0 none judged.1.1 judged.1.2)
first_taken count taken low Refused none judged = absurd (judged.2 (inl none))
first_taken count taken low Unreadable none judged = absurd judged.2

-- no number at all
pub no_number : Numbers
no_number n = false

pub IsNothing-no_number : IsNothing no_number
unfolding no_number
IsNothing-no_number n = refl

-- a number that may be taken is taken
pub judged_fresh : (numbers : Numbers) (number : ℕ) (verdict : Verdict) → IsFresh numbers number → IsJudged numbers number verdict → verdict ≡ Taken number
judged_fresh numbers number (Taken n) fresh judged = ap Taken judged.0
judged_fresh numbers number Refused fresh judged = absurd (judged fresh)
judged_fresh numbers number Unreadable fresh judged = absurd judged

-- the number one below the only one that is taken may be taken
pub fresh_before : (number : ℕ) → IsFresh (including no_number (number + 1)) number
unfolding no_number
fresh_before number = inr (record {
  greatest = number + 1;
  is_greatest = greatest_of_none no_number (number + 1) IsNothing-no_number;
  above_or_new = inr (omega arith, ne_eqb number (number + 1) (λ same. absurd (omega (arith, same))));
})

-- the packet that was sent before the only one that is taken is taken by the number before that one's
pub before_taken : (number low : ℕ) (verdict : Verdict) → number + 1 < 2 ^ 64 → number % 65536 ≡ low % 65536
    → (n : ℕ) × IsNumberOf 1 (including no_number (number + 1)) low n × IsJudged (including no_number (number + 1)) n verdict → verdict ≡ Taken number
before_taken number low verdict fits ends judged =
    let taken = including no_number (number + 1) in
    let top = greatest_of_none no_number (number + 1) IsNothing-no_number in
    let near = subst (λ h. ExtendsFrom 1 h low judged.0) (one_highest taken judged.1.0 (Some (number + 1)) judged.1.1 top) judged.1.2 in
    let here = only_near 16 (Some (number + 1)) low judged.0 number (omega arith) (omega arith) fits near
    (Extends-within_half 16 (Some (number + 1)) low number (omega (arith, fits), ends, omega arith)) in
    judged_fresh taken number verdict (fresh_before number) (subst (λ n. IsJudged taken n verdict) here judged.2)

-- a header that is read as the image of another one has its number
pub number_of_image : (exts : ExtensionMap) (written read : RtpHeader) → read ≡ image_of exts written → read.sequence_number ≡ written.sequence_number
unfolding image_of
number_of_image exts written read is = ap (λ (h : RtpHeader). h.sequence_number) is
