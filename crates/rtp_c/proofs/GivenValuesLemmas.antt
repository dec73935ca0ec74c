-- The values that lie in C's struct are those that are given, where each of them is one.
use Rattle.std.proofs.Common.{◌≡◌, ◌≢◌, ℕ, ◌+◌, ◌-◌, ◌<◌, ◌≤◌, eqb, List, ◌∷◌, length, take, get_or, replicate, All, Option, Some, None, IfSome, refl, sym, ap, ◌∙◌, subst, inl, inr, arith, length-append, take_at}
use Rattle.std.proofs.lemmas.Bool.{cases_eq, lt-ltb, ne_eqb, eq-eqb}
use Rattle.std.proofs.lemmas.List.{get_or_append_left, take_all, length-replicate}
use Rattle.std.specs.Prelude.{IsUtf8}
use Rattle.std.specs.Option.{option_map}
use Rattle.std.proofs.lemmas.List.Sums.{position_or_len_is}
use Rattle.rtp_base.specs.Id.{IsIdByte, IsIdArray, IsIdOf, before_padding, padded}
use Rattle.rtp_base.proofs.IdLemmas.{IsIdOf-text, IsUtf8-text, before_padding-padded}
use Rattle.rtp_values.specs.KindBytes.{IsTextOf}
use Rattle.rtp_values.specs.Spelling.{has_no_data}
use Rattle.rtp_values.specs.declared.value.video_orientation.VideoOrientation.{VideoOrientation}
use Rattle.rtp_values.specs.declared.value.video_orientation.VideoOrientation.TheVariants.{Deg0, Deg90, Deg180, Deg270}
use Rattle.rtp_values.specs.declared.value.values.ExtensionValues.{ExtensionValues}
use Rattle.rtp_c.specs.declared.values.ValuesView.{ValuesView}
use Rattle.rtp_c.specs.Told.{degrees_of}
use Rattle.rtp_c.specs.Given.{given, IsGiven, IsTextIn, IsIdIn, text_in, turn_of, CanBeGiven, AreGivenValues}
use Rattle.rtp_c.proofs.GivenLemmas.{IsFirstZero, zero-no_id_byte, zero-after}

-- a value that is given is one where it is there
given-one : {A : Type 0} (has : ℕ) (IsIt : A → Type 0) (value : Option A) → IsGiven has IsIt value → 0 < has → (one : A) × IsIt one
given-one has IsIt None is there = absurd (omega (arith, is, there))
given-one has IsIt (Some value) is there = (value, is.1)

-- what stands before the first zero
pub text_in-first : (bytes : List ℕ) (n : ℕ) → IsFirstZero bytes n → text_in bytes ≡ take n bytes
text_in-first bytes n first =
    ap (λ (k : ℕ). take k bytes) (position_or_len_is (λ b. eqb b 0) bytes n 0 (omega (arith, first.within))
    (λ k below. ne_eqb (get_or bytes k 0) 0 (first.before k below)) (λ within. eq-eqb (get_or bytes n 0) 0 first.zero))

pub text_in-whole : (bytes : List ℕ) → ((k : ℕ) → k < length bytes → get_or bytes k 0 ≢ 0) → text_in bytes ≡ bytes
text_in-whole bytes none =
    ap (λ (k : ℕ). take k bytes) (position_or_len_is (λ b. eqb b 0) bytes (length bytes) 0 (omega arith)
    (λ k below. ne_eqb (get_or bytes k 0) 0 (none k below)) (λ within. absurd (omega (arith, within)))) ∙ take_all (length bytes) bytes (omega arith)

pub IsFirstZero-text : (bytes text : List ℕ) → IsTextIn bytes text → IsFirstZero bytes (length text)
IsFirstZero-text bytes text is =
    let after = zero-after bytes text is in
    record {
      within = after.0;
      zero = after.1;
      before = λ k below none. zero-no_id_byte (get_or text k 0)
          (sym (get_or_append_left text (0 ∷ is.after) 0 k below) ∙ sym (ap (λ (xs : List ℕ). get_or xs k 0) is.bytes_are) ∙ none) (is.text_is k 0 below);
    }

pub text_in-is : (bytes text : List ℕ) → IsTextIn bytes text → text_in bytes ≡ text
text_in-is bytes text is =
    text_in-first bytes (length text) (IsFirstZero-text bytes text is) ∙ ap (take (length text)) is.bytes_are ∙ take_at text (0 ∷ is.after) (length text) refl

IsTextIn-in : (bytes text : List ℕ) → IsTextIn bytes text → IsTextIn bytes (text_in bytes)
IsTextIn-in bytes text is = subst (IsTextIn bytes) (sym (text_in-is bytes text is)) is

turn_of-degrees : (turn : VideoOrientation) → turn_of (degrees_of turn) ≡ turn
turn_of-degrees Deg0 = refl
turn_of-degrees Deg90 = refl
turn_of-degrees Deg180 = refl
turn_of-degrees Deg270 = refl

-- the orientation of degrees is the one that has them
pub turn_of-is : (turn : VideoOrientation) (degrees : ℕ) → degrees_of turn ≡ degrees → turn ≡ turn_of degrees
turn_of-is turn degrees is = sym (turn_of-degrees turn) ∙ ap turn_of is

pub degrees-turn_of : (turn : VideoOrientation) (degrees : ℕ) → degrees_of turn ≡ degrees → degrees_of (turn_of degrees) ≡ degrees
degrees-turn_of turn degrees is = ap degrees_of (sym (turn_of-is turn degrees is)) ∙ is

text_of : (size : ℕ) (bytes : List ℕ) → (id : List ℕ) × IsIdIn size bytes id → IsTextIn bytes (text_in bytes)
text_of size bytes one = IsTextIn-in bytes one.1.text one.1.is_text

pub CanBeGiven-values : (view : ValuesView) (values : ExtensionValues) → AreGivenValues view values → CanBeGiven view
CanBeGiven-values view values are = record {
  level = are.audio_level_fits;
  turn = λ there. let one = given-one view.has_video_orientation _ values.video_orientation are.video_orientation_is there in degrees-turn_of one.0 view.video_orientation one.1;
  min = λ there. (given-one view.has_playout_delay_min _ values.play_delay_min are.playout_delay_min_is there).1.0;
  max = λ there. (given-one view.has_playout_delay_max _ values.play_delay_max are.playout_delay_max_is there).1.0;
  mid = λ there. text_of 16 view.mid (given-one view.has_mid _ values.mid are.mid_is there);
  rid = λ there. text_of 8 view.rid (given-one view.has_rid _ values.rid are.rid_is there);
  repaired_rid = λ there. text_of 8 view.repaired_rid (given-one view.has_repaired_rid _ values.rid_repair are.repaired_rid_is there);
}

-- ---- the texts

-- a text of id bytes is that of its id
IsTextOf-padded : (size : ℕ) (text : List ℕ) → All IsIdByte text → length text ≤ size → IsTextOf size (padded size text) text
IsTextOf-padded size text all few =
    let id = padded size text in
    let array : IsIdArray id = record { text = text; spaces = size - length text; bytes_are = refl; text_is = all } in
    let before : before_padding id ≡ text = before_padding-padded text (size - length text) all in
    let long : length id ≡ size = omega (arith, length-append text (replicate (size - length text) 32), length-replicate {A = ℕ} (size - length text) 32, few) in
    record {
      text_is = sym before;
      same = subst (λ (xs : List ℕ). IsIdOf size xs id) before (IsIdOf-text size id long array);
      utf8 = subst (λ (xs : List ℕ). IsUtf8 xs) before (IsUtf8-text id _ refl array);
    }

-- how long the text is
shorter : (bytes text : List ℕ) → IsTextIn bytes text → length text < length bytes
shorter bytes text is = (zero-after bytes text is).0

-- a text that is there is lent
pub text-given : (size has : ℕ) (bytes text : List ℕ) (field : Option (List ℕ)) → given has (padded size (text_in bytes)) ≡ field → 0 < has → text ≡ text_in bytes
    → IsTextIn bytes (text_in bytes) → length bytes ≡ size + 1 → (id : List ℕ) × (field ≡ Some id) × IsTextOf size id text
text-given size has bytes text field is there text-is ends long =
    let it = text_in bytes in (
      padded size it,
      sym is ∙ rw (lt-ltb 0 has there) refl,
      subst (λ (xs : List ℕ). IsTextOf size (padded size it) xs) (sym text-is) (IsTextOf-padded size it ends.text_is (omega (arith, shorter bytes it ends, long))),
    )

-- ---- whether a text is empty

-- the id's text is the text
text_of_id : (size : ℕ) (bytes : List ℕ) → IsTextIn bytes (text_in bytes) → before_padding (padded size (text_in bytes)) ≡ text_in bytes
text_of_id size bytes ends = before_padding-padded (text_in bytes) (size - length (text_in bytes)) ends.text_is

pub empty-there : (size has : ℕ) (bytes : List ℕ) → 0 < has → IsTextIn bytes (text_in bytes)
    → eqb (get_or bytes 0 0) 0 ≡ has_no_data (option_map before_padding (given has (padded size (text_in bytes))))
empty-there size has bytes there ends =
    let it = text_in bytes in
    let len : length (before_padding (padded size it)) ≡ length it = ap length (text_of_id size bytes ends) in
    let first = IsFirstZero-text bytes it ends in
    rw (lt-ltb 0 has there) (elim (cases_eq (get_or bytes 0 0) 0) [
      | inl zero ↦
          let none : length it ≡ 0 = ap length (text_in-first bytes 0 (record { within = omega (arith, first.within); zero = zero; before = λ k below. absurd (omega (arith, below)) })) in
          eq-eqb (get_or bytes 0 0) 0 zero ∙ sym (eq-eqb _ 0 (len ∙ none))
      | inr other ↦ ne_eqb (get_or bytes 0 0) 0 other
          ∙ sym (ne_eqb _ 0 (λ none. other (ap (λ (k : ℕ). get_or bytes k 0) (sym (sym len ∙ none)) ∙ first.zero)))
    ])

pub few-there : (size most has : ℕ) (bytes : List ℕ) → 0 < has → IsTextIn bytes (text_in bytes) → length bytes ≡ most
    → IfSome (given has (padded size (text_in bytes))) (λ id. length (before_padding id) < most)
few-there size most has bytes there ends long =
    rw (lt-ltb 0 has there) (omega (arith, ap length (text_of_id size bytes ends), shorter bytes (text_in bytes) ends, long))
