-- A map line and its parts.
use Rattle.rtp_listing.proofs.Common.{◌≡◌, ℕ, ◌+◌, ◌<◌, List, [], ◌∷◌, ◌++◌, length, take, drop, get_or, refl, sym, ap, ◌∙◌, arith, length-append, Bor, Result, Ok, Err, Some, None, ◌≢◌, suc, MatchResult, All, IsUtf8, IsAsciiDigit, IsAscii-from_digits, get_or_at, take-append-drop, drop_more, get_or-take, length-take-le, All-from_get_or, IsMapLine}
use Rattle.std.specs.Result.{result_ok}
use Rattle.std.specs.Str.Parse.{AllDigits}
use Rattle.std.proofs.lemmas.Str.{IsUtf8-from_ascii}
use Rattle.std.proofs.lemmas.Str.Parse.{digit_at}

-- digits are text
pub IsUtf8-digits : (digits : List ℕ) → AllDigits 10 digits → IsUtf8 digits
IsUtf8-digits digits all = IsUtf8-from_ascii digits (IsAscii-from_digits digits all)

-- what is made of bytes that may be text: nothing where they are none, and else the text of the same bytes
pub not_text : {E : Type 0} (r : Result (Bor (List ℕ)) E) (bytes : List ℕ) (P : E → Type 0) → MatchResult r (λ s. (s.now ≡ bytes) × IsUtf8 bytes) (λ e. (IsUtf8 bytes → ⊥) × P e)
    → None ≡ result_ok r → IsUtf8 bytes → ⊥
not_text (Ok text) bytes P is none = absurd (cc none)
not_text (Err e) bytes P is none = is.0

pub text_is : {E : Type 0} (r : Result (Bor (List ℕ)) E) (bytes : List ℕ) (P : E → Type 0) (text : Bor (List ℕ)) → MatchResult r (λ s. (s.now ≡ bytes) × IsUtf8 bytes) (λ e. (IsUtf8 bytes → ⊥) × P e)
    → Some text ≡ result_ok r → text.now ≡ bytes
text_is (Ok found) bytes P text is some = let same : text ≡ found = cc in ap (λ (t : Bor (List ℕ)). t.now) same ∙ is.0
text_is (Err e) bytes P text is some = absurd (cc some)

-- no digit is a space
pub no_space : (digits : List ℕ) → AllDigits 10 digits → All (λ byte. byte ≢ 32) digits
no_space digits all = All-from_get_or (λ byte. byte ≢ 32) digits 0 (λ i below e. let range = digit_at digits i all below in absurd (omega (arith, range, e)))

-- the bytes that are digits, each by itself
pub All-digits : (text : List ℕ) → AllDigits 10 text → All IsAsciiDigit text
All-digits text all = All-from_get_or IsAsciiDigit text 0 (λ i below. digit_at text i all below)

-- the part before the first space has none
pub at_space : (text : List ℕ) (at : ℕ) → at < length text → get_or text at 0 ≡ 32 → ((k : ℕ) → k < at → get_or text k 0 ≡ 32 → ⊥)
    → All (λ byte. byte ≢ 32) (take at text) × (text ≡ take at text ++ 32 ∷ drop (at + 1) text)
at_space text at within here none = (
  All-from_get_or (λ byte. byte ≢ 32) (take at text) 0 (λ i below e.
      let early : i < at = omega (arith, below, length-take-le at text (omega arith)) in
      none i early (sym (get_or-take at text i 0 early) ∙ e)),
  sym (take-append-drop at text) ∙ ap (λ (xs : List ℕ). take at text ++ xs) (drop_more text at 0 within ∙ ap (λ (b : ℕ). b ∷ drop (at + 1) text) here),
)

-- a text splits at its first space in one way
one_split : (before after before' after' : List ℕ) → All (λ byte. byte ≢ 32) before → All (λ byte. byte ≢ 32) before' → before ++ 32 ∷ after ≡ before' ++ 32 ∷ after'
    → (before ≡ before') × (after ≡ after')
one_split [] after [] after' all all' same = (refl, ap (drop 1) same)
one_split [] after (byte ∷ before') after' all all' same = absurd (all' 0 0 (omega arith) (cc))
one_split (byte ∷ before) after [] after' all all' same = absurd (all 0 0 (omega arith) (cc))
one_split (byte ∷ before) after (byte' ∷ before') after' all all' same =
    let rest = one_split before after before' after' (λ k d below. all (suc k) d (omega arith)) (λ k d below. all' (suc k) d (omega arith)) (ap (drop 1) same) in
    let here : byte ≡ byte' = cc in
    (cc, rest.1)

pub first_space : (text before after : List ℕ) (at : ℕ) → at < length text → get_or text at 0 ≡ 32 → ((k : ℕ) → k < at → get_or text k 0 ≡ 32 → ⊥)
    → All (λ byte. byte ≢ 32) before → text ≡ before ++ 32 ∷ after → (take at text ≡ before) × (drop (at + 1) text ≡ after)
first_space text before after at within here none all split =
    let found = at_space text at within here none in
    one_split (take at text) (drop (at + 1) text) before after found.0 all (sym found.1 ∙ split)

-- a text with a space has a first one
pub some_space : (text before after : List ℕ) → text ≡ before ++ 32 ∷ after → ((k : ℕ) → k < length text → get_or text k 0 ≡ 32 → ⊥) → ⊥
some_space text before after split none =
    let within : length before < length text = omega (arith, ap length split, length-append before (32 ∷ after)) in
    none (length before) within (ap (λ (xs : List ℕ). get_or xs (length before) 0) split ∙ get_or_at before 32 after 0 (length before) refl)

-- after `map ` a map line has its digits, a space and its URI
pub after_word : (line rest : List ℕ) (id : ℕ) (uri : List ℕ) (m : IsMapLine line id uri) → rest ≡ drop 4 line → rest ≡ m.digits ++ 32 ∷ uri
after_word line rest id uri m e = e ∙ ap (drop 4) m.in_order
