-- Texts that end at a zero.
use Rattle.std.proofs.Common.{◌≡◌, ◌≢◌, ℕ, ◌+◌, ◌<◌, List, ◌∷◌, ◌++◌, length, take, drop, get_or, sym, ap, ◌∙◌, subst, All, arith, length-append, get_or-append-add, take_at, take-append-drop, Option, Some, None, IfSome, IfNone}
use Rattle.std.proofs.lemmas.Bool.{false≢true}
use Rattle.std.proofs.lemmas.List.{get_or_append_left, drop_more}
use Rattle.rtp_base.specs.Id.{IsIdByte}
use Rattle.rtp_c.specs.Given.{IsTextIn}

-- a zero is none of an id's characters
pub zero-no_id_byte : (b : ℕ) → b ≡ 0 → IsIdByte b → ⊥
zero-no_id_byte b none is = false≢true (subst IsIdByte none is)

-- after the text stands a zero
pub zero-after : (bytes text : List ℕ) → (is : IsTextIn bytes text) → (length text < length bytes) × (get_or bytes (length text) 0 ≡ 0)
zero-after bytes text is =
    let n : length text ≡ length text + 0 = omega arith in (
      omega (arith, ap length is.bytes_are, length-append text (0 ∷ is.after)),
      ap (λ (xs : List ℕ). get_or xs (length text) 0) is.bytes_are
          ∙ ap (λ (k : ℕ). get_or (text ++ 0 ∷ is.after) k 0) n
          ∙ get_or-append-add text (0 ∷ is.after) 0 0,
    )

-- the first zero
pub record IsFirstZero (bytes : List ℕ) (n : ℕ) : Type 0 where
  pub within : n < length bytes
  pub zero : get_or bytes n 0 ≡ 0
  pub before : (k : ℕ) → k < n → get_or bytes k 0 ≢ 0

one_text : (bytes text : List ℕ) (n : ℕ) → IsTextIn bytes text → IsFirstZero bytes n → n ≡ length text
one_text bytes text n is first =
    let after = zero-after bytes text is in
    let not_later : length text < n → ⊥ = λ lt. first.before (length text) lt after.1 in
    let not_sooner : n < length text → ⊥ = λ lt.
    zero-no_id_byte (get_or text n 0)
    (sym (get_or_append_left text (0 ∷ is.after) 0 n lt) ∙ sym (ap (λ (xs : List ℕ). get_or xs n 0) is.bytes_are) ∙ first.zero)
    (is.text_is n 0 lt) in
    omega (arith, not_later, not_sooner)

pub no_text : (bytes text : List ℕ) → ((k : ℕ) → k < length bytes → get_or bytes k 0 ≢ 0) → IsTextIn bytes text → ⊥
no_text bytes text none is = let after = zero-after bytes text is in none (length text) after.0 after.1

-- the text before the first zero
pub IsTextIn-first : (bytes : List ℕ) (n : ℕ) → IsFirstZero bytes n → All IsIdByte (take n bytes) → IsTextIn bytes (take n bytes)
IsTextIn-first bytes n first all = record {
  after = drop (n + 1) bytes;
  bytes_are = sym (take-append-drop n bytes)
      ∙ ap (λ (xs : List ℕ). take n bytes ++ xs) (drop_more bytes n 0 first.within ∙ ap (λ (b : ℕ). b ∷ drop (n + 1) bytes) first.zero);
  text_is = all;
}

pub all-text : (bytes text : List ℕ) (n : ℕ) → IsTextIn bytes text → IsFirstZero bytes n → All IsIdByte (take n bytes)
all-text bytes text n is first =
    subst (All IsIdByte)
    (sym (ap (take n) is.bytes_are ∙ take_at text (0 ∷ is.after) n (sym (one_text bytes text n is first)))) is.text_is

-- ---- what isn't given

pub weaker_none : {A X Y : Type 0} (o : Option A) → (X → Y) → IfNone o X → IfNone o Y
weaker_none None f x = f x
weaker_none (Some value) f x = tt

pub weaker_some : {A : Type 0} (P Q : A → Type 0) (o : Option A) → ((x : A) → P x → Q x) → IfSome o P → IfSome o Q
weaker_some P Q None f x = tt
weaker_some P Q (Some value) f x = f value x
