-- The whole input: its front and its rest.
use Rattle.rtp_listing.proofs.Common.{◌≡◌, ℕ, List, [], ◌∷◌, ◌++◌, length, drop, Result, Ok, Err, refl, sym, ap, ◌∙◌, subst, arith, append_assoc, length-append, Bool, true, false, ◌==◌, IsErr, Option, Some, None, IfSome, if◌then◌else◌, ◌%◌, lines, FromHexError, Slots, IsMapLine, Item, AreMapLines, AreHex, AreLines, AreMapped, IsStandardMap, IsMapOf, Spells, IsFirstBadLine, IsInput, HasBadLine, IsFront, IsFirstNotHex, MapsNoneFirst}
use Rattle.hex.specs.Hex.{decode_of, decode_pairs}
use Rattle.hex.specs.declared.error.FromHexError.TheVariants.{InvalidHexCharacter, OddLength}

-- the first of some lines of hexadecimal, and the others
pub hex_first : (line : List ℕ) (others datagrams : List (List ℕ)) → AreHex (line ∷ others) datagrams
    → (bytes : List ℕ) × (more : List (List ℕ)) × (datagrams ≡ bytes ∷ more) × (decode_of line ≡ Ok bytes) × AreHex others more
hex_first line others [] spelled = absurd (cc)
hex_first line others (bytes ∷ more) spelled = (bytes, more, refl, cc, cc)

-- what decodes is no error
no_error : (r : Result (List ℕ) FromHexError) (bytes : List ℕ) → r ≡ Ok bytes → IsErr r → ⊥
no_error (Ok bytes') bytes ok err = absurd (cc)
no_error (Err e) bytes ok err = absurd (cc)

-- among lines of hexadecimal is no other
hex_any : (before : List (List ℕ)) (bad : List ℕ) (after datagrams : List (List ℕ)) → AreHex (before ++ bad ∷ after) datagrams → IsErr (decode_of bad) → ⊥
hex_any [] bad after datagrams spelled err = let first = hex_first bad after datagrams spelled in no_error (decode_of bad) first.0 first.3 err
hex_any (line ∷ before) bad after datagrams spelled err =
    let first = hex_first line (before ++ bad ∷ after) datagrams spelled in hex_any before bad after first.1 first.4 err

-- no datagrams, no lines
hex_none : (before : List (List ℕ)) → AreHex before [] → before ≡ []
hex_none [] spelled = refl
hex_none (line ∷ before) spelled = absurd (cc)

-- what begins with m is no hexadecimal
m_is_no_digit : (rest bytes : List ℕ) → decode_of (109 ∷ 97 ∷ rest) ≡ Ok bytes → ⊥
unfolding decode_pairs
m_is_no_digit rest bytes e = two_errors (length (109 ∷ 97 ∷ rest) % 2 == 1) bytes e
  where
    two_errors : (odd : Bool) (bytes : List ℕ) → (if odd then Err OddLength else Err (InvalidHexCharacter 109 0)) ≡ Ok bytes → ⊥
    two_errors true bytes e = absurd (cc)
    two_errors false bytes e = absurd (cc)

map_is_no_hex : (line : List ℕ) (id : ℕ) (uri bytes : List ℕ) → IsMapLine line id uri → decode_of line ≡ Ok bytes → ⊥
map_is_no_hex line id uri bytes is_map decoded = m_is_no_digit (112 ∷ 32 ∷ (is_map.digits ++ 32 ∷ uri)) bytes (subst (λ (l : List ℕ). decode_of l ≡ Ok bytes) is_map.in_order decoded)

-- there is no first bad line among well-formed lines
none_bad : (maps : List (List ℕ)) (items : List Item) (others datagrams : List (List ℕ)) → (maps' : List (List ℕ)) (items' : List Item) (others' datagrams' : List (List ℕ))
    → (bad : List ℕ) (after : List (List ℕ)) → AreMapLines maps items → AreHex others datagrams → AreMapLines maps' items' → AreHex others' datagrams'
    → maps ++ others ≡ maps' ++ (others' ++ bad ∷ after) → IsErr (decode_of bad) → (datagrams' ≡ [] → (id : ℕ) (uri : List ℕ) → IsMapLine bad id uri → ⊥) → ⊥
none_bad [] items others datagrams [] items' others' datagrams' bad after are hex are' hex' same err no_map =
    hex_any others' bad after datagrams (subst (λ (ls : List (List ℕ)). AreHex ls datagrams) same hex) err
none_bad [] items others datagrams (line ∷ maps') [] others' datagrams' bad after are hex are' hex' same err no_map = absurd are'
none_bad [] items others datagrams (line ∷ maps') (item ∷ items') others' datagrams' bad after are hex are' hex' same err no_map =
    let first = hex_first line (maps' ++ (others' ++ bad ∷ after)) datagrams (subst (λ (ls : List (List ℕ)). AreHex ls datagrams) same hex) in
    map_is_no_hex line item.0 item.1 first.0 are'.0 first.3
none_bad (line ∷ maps) [] others datagrams maps' items' others' datagrams' bad after are hex are' hex' same err no_map = absurd are
none_bad (line ∷ maps) (item ∷ items) others datagrams [] items' [] [] bad after are hex are' hex' same err no_map =
    no_map refl item.0 item.1 (subst (λ (l : List ℕ). IsMapLine l item.0 item.1) (cc) are.0)
none_bad (line ∷ maps) (item ∷ items) others datagrams [] items' [] (bytes ∷ more) bad after are hex are' hex' same err no_map = absurd (cc)
none_bad (line ∷ maps) (item ∷ items) others datagrams [] items' (other ∷ others') datagrams' bad after are hex are' hex' same err no_map =
    let first = hex_first other others' datagrams' hex' in
    let here : line ≡ other = cc in
    map_is_no_hex line item.0 item.1 first.0 are.0 (ap decode_of here ∙ first.3)
none_bad (line ∷ maps) (item ∷ items) others datagrams (line' ∷ maps') [] others' datagrams' bad after are hex are' hex' same err no_map = absurd are'
none_bad (line ∷ maps) (item ∷ items) others datagrams (line' ∷ maps') (item' ∷ items') others' datagrams' bad after are hex are' hex' same err no_map =
    none_bad maps items others datagrams maps' items' others' datagrams' bad after are.1 hex are'.1 hex' (ap (drop 1) same) err no_map

-- an input has no first bad line
no_bad_line : (text : List ℕ) (items : List Item) (datagrams : List (List ℕ)) (number : ℕ) → AreLines (lines text) items datagrams → IsFirstBadLine text number → ⊥
no_bad_line text items datagrams number good bad =
    none_bad good.maps items good.others datagrams bad.good_before.maps bad.items bad.good_before.others bad.datagrams bad.bad bad.after
    good.are_maps good.spelled bad.good_before.are_maps bad.good_before.spelled
    (sym good.in_order ∙ bad.in_order ∙ ap (λ (ls : List (List ℕ)). ls ++ bad.bad ∷ bad.after) bad.good_before.in_order
    ∙ append_assoc bad.good_before.maps bad.good_before.others (bad.bad ∷ bad.after))
    bad.not_hex bad.no_map

-- the first bad line after the front is the first of all
pub IsFirstBadLine-after : (text rest : List ℕ) (exts : Slots) (count number : ℕ) → IsFront text exts count rest → MapsNoneFirst rest
    → IsFirstNotHex (lines rest) count number → IsFirstBadLine text number
IsFirstBadLine-after text rest exts count number front all bad = record {
  before = front.maps ++ bad.before;
  bad = bad.bad;
  after = bad.after;
  in_order =
      front.in_order ∙ ap (λ (ls : List (List ℕ)). front.maps ++ ls) bad.in_order ∙ sym (append_assoc front.maps bad.before (bad.bad ∷ bad.after));
  number_is = omega (arith, front.count_is, bad.number_is, length-append front.maps bad.before);
  items = front.items;
  datagrams = bad.datagrams;
  good_before = record {
    maps = front.maps;
    others = bad.before;
    in_order = refl;
    are_maps = front.are_maps;
    spelled = bad.good_before;
  };
  not_hex = bad.not_hex;
  no_map = λ none id uri is_map.
      let first : bad.before ≡ [] = hex_none bad.before (subst (λ (ds : List (List ℕ)). AreHex bad.before ds) none bad.good_before) in
      all bad.bad bad.after id uri (bad.in_order ∙ ap (λ (ls : List (List ℕ)). ls ++ bad.bad ∷ bad.after) first) is_map;
}

-- the front and the rest are all lines
AreLines-after : (text rest : List ℕ) (exts : Slots) (count : ℕ) (datagrams : List (List ℕ)) (front : IsFront text exts count rest) → AreHex (lines rest) datagrams
    → AreLines (lines text) front.items datagrams
AreLines-after text rest exts count datagrams front hex = record {
  maps = front.maps;
  others = lines rest;
  in_order = front.in_order;
  are_maps = front.are_maps;
  spelled = hex;
}

-- as many items as map lines
standard_of : (maps : List (List ℕ)) (items : List Item) (exts : Slots) → AreMapLines maps items → length maps ≡ 0 → IsStandardMap exts → IsMapOf items exts
standard_of maps [] exts are none standard = standard
standard_of [] (item ∷ items) exts are none standard = absurd are
standard_of (line ∷ maps) (item ∷ items) exts are none standard = absurd (omega (arith, none))

mapped_of : (maps : List (List ℕ)) (items : List Item) (exts : Slots) → AreMapLines maps items → (length maps ≡ 0 → ⊥) → AreMapped items exts → IsMapOf items exts
mapped_of maps (item ∷ items) exts are some mapped = mapped
mapped_of [] [] exts are some mapped = absurd (some refl)
mapped_of (line ∷ maps) [] exts are some mapped = absurd are

pub Spells-standard : (text rest : List ℕ) (exts standard : Slots) (count : ℕ) (datagrams : List (List ℕ)) → IsFront text exts count rest → AreHex (lines rest) datagrams
    → count ≡ 0 → IsStandardMap standard → Spells text standard datagrams
Spells-standard text rest exts standard count datagrams front hex none is_standard = record {
  items = front.items;
  lines_are = AreLines-after text rest exts count datagrams front hex;
  exts_are = standard_of front.maps front.items standard front.are_maps (sym front.count_is ∙ none) is_standard;
}

pub Spells-mapped : (text rest : List ℕ) (exts : Slots) (count : ℕ) (datagrams : List (List ℕ)) → IsFront text exts count rest → AreHex (lines rest) datagrams
    → (count ≡ 0 → ⊥) → Spells text exts datagrams
Spells-mapped text rest exts count datagrams front hex some = record {
  items = front.items;
  lines_are = AreLines-after text rest exts count datagrams front hex;
  exts_are = mapped_of front.maps front.items exts front.are_maps (λ none. some (front.count_is ∙ none)) front.exts_are;
}

-- what only a bad line brings, an input that is known does not, and the other way round
pub input_has_none : (known : Option (List ℕ)) (Bad : Type 0) → (Bad → IfSome known HasBadLine) → IfSome known (λ text. IsInput text → Bad → ⊥)
input_has_none None Bad only = tt
input_has_none (Some text) Bad only = λ input bad. let line = only bad in no_bad_line text input.0 input.1 line.0 input.2 line.1

pub bad_is_none : (known : Option (List ℕ)) (Good : Type 0) → (Good → IfSome known IsInput) → IfSome known (λ text. HasBadLine text → Good → ⊥)
bad_is_none None Good only = tt
bad_is_none (Some text) Good only = λ line good. let input = only good in no_bad_line text input.0 input.1 line.0 input.2 line.1
