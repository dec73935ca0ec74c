-- Lines of hexadecimal that are tested one after the other.
use Rattle.rtp_listing.proofs.Common.{◌≡◌, ◌≢◌, ℕ, ◌+◌, ◌-◌, ◌<◌, ◌≤◌, ◌%◌, ◌==◌, List, [], ◌∷◌, ◌++◌, length, map, take, drop, Result, Ok, Err, refl, sym, ap, ◌∙◌, arith, append_assoc, append-nil, length-append, lines, lines_of_parts, strip_carriage_return, slice_split, map_push, length_push, ne_eqb, take-append-drop, decode_of, FromHexError, AreHex, IsHexText, IsFirstNotHex, IsPastDigits, All, IsAsciiHexdigit, IsOk, IsErr, common_steps, Bool, true, false, suc, if◌then◌else◌, get_or, length-take-le}
use Rattle.rtp_listing.proofs.HexLineLemmas.{value, IsOk-digits, digits_from_ok}
use Rattle.std.specs.List.{onto_first}
use Rattle.std.proofs.lemmas.List.Splits.{slice_split-cons_no}
use Rattle.std.proofs.lemmas.List.Elements.{All-head, All-tail, All-append}
use Rattle.rtp_listing.proofs.LineLemmas.{lines-last}

one_less : (n : ℕ) → suc n - 1 ≡ n
one_less n = omega arith

-- a byte before a line that is no CR stays, whether the line ends with CR or not
cut : (is_return : Bool) (byte next : ℕ) (line : List ℕ)
    → (if is_return then take (suc (suc (length line)) - 1) (byte ∷ next ∷ line) else byte ∷ next ∷ line) ≡ byte ∷ (if is_return then take (suc (length line) - 1) (next ∷ line) else next ∷ line)
cut true byte next line = ap (λ (n : ℕ). take n (byte ∷ next ∷ line)) (one_less (suc (length line))) ∙ ap (λ (n : ℕ). byte ∷ take n (next ∷ line)) (sym (one_less (length line)))
cut false byte next line = refl

strip-cons : (byte : ℕ) (line : List ℕ) → byte ≢ 13 → strip_carriage_return (byte ∷ line) ≡ byte ∷ strip_carriage_return line
strip-cons byte [] other = rw (ne_eqb byte 13 other) refl
strip-cons byte (next ∷ line) other =
    let last : get_or (byte ∷ next ∷ line) (suc (suc (length line)) - 1) 0 ≡ get_or (next ∷ line) (suc (length line) - 1) 0 =
    ap (λ (n : ℕ). get_or (byte ∷ next ∷ line) n 0) (one_less (suc (length line))) ∙ ap (λ (n : ℕ). get_or (next ∷ line) n 0) (sym (one_less (length line))) in
    ap (λ (l : ℕ). if l == 13 then take (suc (suc (length line)) - 1) (byte ∷ next ∷ line) else byte ∷ next ∷ line) last
    ∙ cut (get_or (next ∷ line) (suc (length line) - 1) 0 == 13) byte next line

-- and is the first of the line that it stands before
one_part : (byte : ℕ) (part : List ℕ) → lines_of_parts ((byte ∷ part) ∷ []) ≡ (byte ∷ part) ∷ []
one_part byte part = rw (ne_eqb (length (byte ∷ part)) 0 (λ none. absurd (omega (arith, none)))) refl

parts-cons : (byte : ℕ) (parts : List (List ℕ)) (line : List ℕ) (others : List (List ℕ)) → byte ≢ 13 → lines_of_parts parts ≡ line ∷ others
    → lines_of_parts (onto_first byte parts) ≡ (byte ∷ line) ∷ others
parts-cons byte [] line others other is = absurd (cc is)
parts-cons byte ([] ∷ []) line others other is = absurd (cc is)
parts-cons byte ((x ∷ xs) ∷ []) line others other is =
    let same : (x ∷ xs) ∷ [] ≡ line ∷ others = sym (one_part x xs) ∙ is in
    one_part byte (x ∷ xs) ∙ (cc)
parts-cons byte (x ∷ y ∷ more) line others other is = ap (λ (l : List ℕ). l ∷ lines_of_parts (y ∷ more)) (strip-cons byte x other) ∙ (cc)

no_end : (c : ℕ) → IsAsciiHexdigit c → (c ≢ 10) × (c ≢ 13)
no_end c digit = (λ is. grind (arith, common_steps), λ is. grind (arith, common_steps))

-- so digits are the front of the line that follows them
lines-digits : (front rest line : List ℕ) (others : List (List ℕ)) → All IsAsciiHexdigit front → lines rest ≡ line ∷ others → lines (front ++ rest) ≡ (front ++ line) ∷ others
lines-digits [] rest line others digits is = is
lines-digits (byte ∷ front) rest line others digits is =
    let (no_feed, no_return) = no_end byte (All-head IsAsciiHexdigit byte front digits) in
    ap lines_of_parts (slice_split-cons_no (λ b. b == 10) byte (front ++ rest) (ne_eqb byte 10 no_feed))
    ∙ parts-cons byte (slice_split (λ b. b == 10) (front ++ rest)) (front ++ line) others no_return
    (lines-digits front rest line others (All-tail IsAsciiHexdigit byte front digits) is)

-- one line of hexadecimal more
AreHex-more : (done datagrams : List (List ℕ)) (line bytes : List ℕ) → AreHex done datagrams → decode_of line ≡ Ok bytes → AreHex (done ++ line ∷ []) (datagrams ++ bytes ∷ [])
AreHex-more done datagrams line bytes spelled decoded =
    map_push decode_of done line
    ∙ ap (λ (rs : List (Result (List ℕ) FromHexError)). rs ++ decode_of line ∷ []) spelled
    ∙ ap (λ (r : Result (List ℕ) FromHexError). map Ok datagrams ++ r ∷ []) decoded
    ∙ sym (map_push Ok datagrams bytes)

-- the lines before the rest of the text are hexadecimal, and so is what is before it of the line that it begins in
pub record SoFar (text rest : List ℕ) (start number : ℕ) : Type 0 where
  pub done : List (List ℕ)
  pub front : List ℕ
  pub in_order : lines text ≡ done ++ lines (front ++ rest)
  pub datagrams : List (List ℕ)
  pub spelled : AreHex done datagrams
  pub digits : All IsAsciiHexdigit front
  pub even : length front % 2 ≡ 0
  pub number_is : number ≡ start + length done
  pub fits : number + length rest ≤ start + length text

pub SoFar-none : (text : List ℕ) (start : ℕ) → SoFar text text start start
SoFar-none text start = record {
  done = [];
  front = [];
  in_order = refl;
  datagrams = [];
  spelled = refl;
  digits = λ k d below. absurd (omega arith);
  even = refl;
  number_is = omega arith;
  fits = omega arith;
}

-- no digits are passed
pub past-none : (text : List ℕ) → IsPastDigits text text
past-none text = record {
  digits = [];
  text_is = refl;
  even = refl;
  are_digits = λ k d below. absurd (omega arith);
}

-- and so many more
pub past-more : (text rest : List ℕ) (n : ℕ) → n ≤ length rest → n % 2 ≡ 0 → All IsAsciiHexdigit (take n rest) → IsPastDigits text rest → IsPastDigits text (drop n rest)
past-more text rest n within even digits past = record {
  digits = past.digits ++ take n rest;
  text_is =
      past.text_is ∙ ap (λ (xs : List ℕ). past.digits ++ xs) (sym (take-append-drop n rest))
      ∙ sym (append_assoc past.digits (take n rest) (drop n rest));
  even = omega (arith, past.even, even, length-append past.digits (take n rest), length-take-le n rest within);
  are_digits = All-append IsAsciiHexdigit past.digits (take n rest) past.are_digits digits;
}

-- fewer bytes are left
pub past-few : (text rest : List ℕ) → IsPastDigits text rest → length rest ≤ length text
past-few text rest past = omega (arith, ap length past.text_is, length-append past.digits rest)

-- more digits of the line
pub SoFar-passed : (text rest after : List ℕ) (start number : ℕ) → IsPastDigits rest after → SoFar text rest start number → SoFar text after start number
SoFar-passed text rest after start number past so_far = record {
  done = so_far.done;
  front = so_far.front ++ past.digits;
  in_order =
      so_far.in_order
      ∙ ap (λ (xs : List ℕ). so_far.done ++ lines xs)
      (ap (λ (xs : List ℕ). so_far.front ++ xs) past.text_is ∙ sym (append_assoc so_far.front past.digits after));
  datagrams = so_far.datagrams;
  spelled = so_far.spelled;
  digits = All-append IsAsciiHexdigit so_far.front past.digits so_far.digits past.are_digits;
  even = omega (arith, so_far.even, past.even, length-append so_far.front past.digits);
  number_is = so_far.number_is;
  fits = omega (arith, so_far.fits, past-few rest after past);
}

module _ (text rest after line : List ℕ) (start number : ℕ) (first : lines rest ≡ line ∷ lines after) (so_far : SoFar text rest start number) where
  abbrev whole : List ℕ
  whole = so_far.front ++ line

  in_order : lines text ≡ so_far.done ++ whole ∷ lines after
  in_order = so_far.in_order ∙ ap (λ (ls : List (List ℕ)). so_far.done ++ ls) (lines-digits so_far.front rest line (lines after) so_far.digits first)

  -- the line is hexadecimal where the rest of it is
  pub SoFar-more : length after < length rest → IsOk (decode_of line) → SoFar text after start (number + 1)
  SoFar-more shorter ok =
      let (even, digits) = digits_from_ok line ok in
      let all = IsOk-digits whole (omega (arith, so_far.even, even, length-append so_far.front line)) (All-append IsAsciiHexdigit so_far.front line so_far.digits digits) in
      let (bytes, decoded) = value (decode_of whole) all in
      record {
        done = so_far.done ++ whole ∷ [];
        front = [];
        in_order = in_order ∙ sym (append_assoc so_far.done (whole ∷ []) (lines after));
        datagrams = so_far.datagrams ++ bytes ∷ [];
        spelled = AreHex-more so_far.done so_far.datagrams whole bytes so_far.spelled decoded;
        digits = λ k d below. absurd (omega arith);
        even = refl;
        number_is = omega (arith, so_far.number_is, length_push so_far.done whole);
        fits = omega (arith, so_far.fits, shorter);
      }

  -- and not where that isn't
  pub IsFirstNotHex-here : (IsOk (decode_of line) → ⊥) → IsFirstNotHex (lines text) start (number + 1)
  IsFirstNotHex-here bad = record {
    before = so_far.done;
    bad = whole;
    after = lines after;
    in_order = in_order;
    number_is = omega (arith, so_far.number_is);
    datagrams = so_far.datagrams;
    good_before = so_far.spelled;
    not_hex = IsErr-from_none (decode_of whole) (λ ok.
        let (even, digits) = digits_from_ok whole ok in
        bad (IsOk-digits line (omega (arith, so_far.even, even, length-append so_far.front line)) (behind so_far.front line digits)));
  }
    where
      behind : (xs ys : List ℕ) → All IsAsciiHexdigit (xs ++ ys) → All IsAsciiHexdigit ys
      behind [] ys digits = digits
      behind (x ∷ xs) ys digits = behind xs ys (All-tail IsAsciiHexdigit x (xs ++ ys) digits)

      IsErr-from_none : (r : Result (List ℕ) FromHexError) → (IsOk r → ⊥) → IsErr r
      IsErr-from_none (Ok bytes) none = absurd (none refl)
      IsErr-from_none (Err e) none = refl

-- where nothing is left, all lines are hexadecimal: also one without a line feed
pub IsHexText-all : (text rest : List ℕ) (start number : ℕ) → rest ≡ [] → SoFar text rest start number → IsHexText text
IsHexText-all text rest start number none so_far =
    at_end so_far.front so_far.digits so_far.even (so_far.in_order ∙ ap (λ (xs : List ℕ). so_far.done ++ lines xs) (ap (λ (xs : List ℕ). so_far.front ++ xs) none ∙ append-nil so_far.front))
  where
    at_end : (front : List ℕ) → All IsAsciiHexdigit front → length front % 2 ≡ 0 → lines text ≡ so_far.done ++ lines front → IsHexText text
    at_end [] digits even is = (so_far.datagrams, ap (map decode_of) (is ∙ append-nil so_far.done) ∙ so_far.spelled)
    at_end (byte ∷ front) digits even is =
        let last = lines-last (byte ∷ front) (omega arith) (λ k below feed. (no_end _ (digits k 0 below)).0 feed) in
        let (bytes, decoded) = value (decode_of (byte ∷ front)) (IsOk-digits (byte ∷ front) even digits) in (
          so_far.datagrams ++ bytes ∷ [],
          ap (map decode_of) (is ∙ ap (λ (ls : List (List ℕ)). so_far.done ++ ls) last) ∙ AreHex-more so_far.done so_far.datagrams (byte ∷ front) bytes so_far.spelled decoded,
        )
