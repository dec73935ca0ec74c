-- Texts of frequencies, and what `parse` reads in them.
use Rattle.rtp_base.proofs.Common.{◌≡◌, ℕ, ◌<◌, ◌^◌, Bool, true, false, eqb, Option, Some, None, Ok, IfOk, List, [], ◌∷◌, ◌++◌, length, drop, get_or, ◌⊎◌, inl, inr, refl, sym, ap, ◌∙◌, subst, arith, IsAsciiDigit, All, eqb-true, eqb-false, All-nil, All-cons, All-head, All-tail, IsFrequencyText}
use Rattle.std.specs.Option.{SomeIff, ok_or}
use Rattle.std.specs.Str.Parse.{AllDigits, IsNumeral, digits_value, without_leading_plus}
use Rattle.std.proofs.lemmas.Str.Parse.{IsNumeralModel, IsDigitsTest, numerals_by_value, not_in_digits, without_leading_plus_none, without_leading_plus_plus}

digits_test : IsDigitsTest (All IsAsciiDigit)
digits_test = record {
  empty = All-nil IsAsciiDigit;
  parts = λ c cs are. (All-head IsAsciiDigit c cs are, All-tail IsAsciiDigit c cs are);
  more = λ c cs is are. All-cons IsAsciiDigit c cs is are;
}

-- the digits of `parse` are ASCII digits
own : IsNumeralModel (All IsAsciiDigit) (digits_value 10)
own = numerals_by_value (All IsAsciiDigit) digits_test

-- what `parse` reads is a frequency's text, where it is above 0
by_sign : (text : List ℕ) (hertz : ℕ) (plus : Bool) → eqb (get_or text 0 0) 43 ≡ plus → IsNumeral 10 (without_leading_plus text)
    → digits_value 10 (without_leading_plus text) ≡ hertz → 0 < hertz → hertz < 2 ^ 32 → IsFrequencyText text hertz
by_sign [] hertz plus is numeral number positive fits = absurd (omega (arith, numeral.0))
by_sign (c ∷ cs) hertz true is numeral number positive fits =
    let head : c ≡ 43 = eqb-true c 43 is in
    let rest : without_leading_plus (c ∷ cs) ≡ cs = without_leading_plus_plus (c ∷ cs) head in
    record {
      sign = 43 ∷ [];
      digits = cs;
      text_is = ap (λ (x : ℕ). x ∷ cs) head;
      sign_is = inr refl;
      digits_are = own.from cs (subst (AllDigits 10) rest numeral.1);
      some = subst (λ (ds : List ℕ). 0 < length ds) rest numeral.0;
      number = sym number ∙ ap (digits_value 10) rest;
      positive = positive;
      fits = fits;
    }
by_sign (c ∷ cs) hertz false is numeral number positive fits =
    let rest : without_leading_plus (c ∷ cs) ≡ c ∷ cs = without_leading_plus_none (c ∷ cs) (eqb-false c 43 is) in
    record {
      sign = [];
      digits = c ∷ cs;
      text_is = refl;
      sign_is = inl refl;
      digits_are = own.from (c ∷ cs) (subst (AllDigits 10) rest numeral.1);
      some = omega (arith, numeral.0);
      number = sym number ∙ ap (digits_value 10) rest;
      positive = positive;
      fits = fits;
    }

-- a frequency's text, as `parse` takes it
by_own_sign : (text sign digits : List ℕ) → text ≡ sign ++ digits → (sign ≡ []) ⊎ (sign ≡ 43 ∷ []) → All IsAsciiDigit digits → 0 < length digits
    → without_leading_plus text ≡ digits
by_own_sign text sign digits is (inl none) are some =
    let same : text ≡ digits = is ∙ ap (λ (s : List ℕ). s ++ digits) none in
    without_leading_plus_none text (λ plus. not_in_digits own digits 43 are (λ within. absurd (omega (arith, within))) 0 some (sym (ap (λ (t : List ℕ). get_or t 0 0) same) ∙ plus)) ∙ same
by_own_sign text sign digits is (inr plus) are some =
    let same : text ≡ 43 ∷ digits = is ∙ ap (λ (s : List ℕ). s ++ digits) plus in
    without_leading_plus_plus text (ap (λ (t : List ℕ). get_or t 0 0) same) ∙ ap (drop 1) same

-- ---- the result

-- what `parse` takes, and what it gives, of a frequency's text
record IsRead (text : List ℕ) (hertz : ℕ) : Type 0 where
  numeral : IsNumeral 10 (without_leading_plus text)
  number : digits_value 10 (without_leading_plus text) ≡ hertz

IsFrequencyText-read : (text : List ℕ) (hertz : ℕ) → IsFrequencyText text hertz → IsRead text hertz
IsFrequencyText-read text hertz is =
    let rest = by_own_sign text is.sign is.digits is.text_is is.sign_is is.digits_are is.some in
    record {
      numeral = subst (IsNumeral 10) (sym rest) (is.some, own.to is.digits is.digits_are);
      number = ap (digits_value 10) rest ∙ sym is.number;
    }

-- a text that `parse` refuses is no frequency's
pub refused : (text : List ℕ) → ¬ (IsNumeral 10 (without_leading_plus text) × (digits_value 10 (without_leading_plus text) < 2 ^ 32))
    → (hertz : ℕ) → IsFrequencyText text hertz → ⊥
refused text not hertz is =
    let read = IsFrequencyText-read text hertz is in
    not (read.numeral, subst (λ (n : ℕ). n < 2 ^ 32) (sym read.number) is.fits)

-- the number that `parse` gives is the text's frequency, where it is above 0
pub answered : {E : Type 0} (text : List ℕ) (number : ℕ) (found : Option ℕ) (error : E)
    → (IsNumeral 10 (without_leading_plus text) × (digits_value 10 (without_leading_plus text) < 2 ^ 32)) × (number ≡ digits_value 10 (without_leading_plus text))
    → SomeIff found (0 < number) number
    → IfOk (ok_or found error) (IsFrequencyText text) × ((hertz : ℕ) → IsFrequencyText text hertz → ok_or found error ≡ Ok hertz)
answered text number None error parsed none = (
  tt,
  λ hertz is.
      let same : hertz ≡ number = sym (IsFrequencyText-read text hertz is).number ∙ sym parsed.1 in
      absurd (none (subst (λ (n : ℕ). 0 < n) same is.positive)),
)
answered text number (Some x) error parsed some = (
  subst (IsFrequencyText text) (sym some.1)
      (by_sign text number (eqb (get_or text 0 0) 43) refl parsed.0.0 (sym parsed.1) some.0 (subst (λ (n : ℕ). n < 2 ^ 32) (sym parsed.1) parsed.0.1)),
  λ hertz is. ap (λ (n : ℕ). Ok n) (some.1 ∙ parsed.1 ∙ (IsFrequencyText-read text hertz is).number),
)
