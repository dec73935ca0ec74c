-- How many bytes elements take in the two-byte form.
use Rattle.std.proofs.Common.{◌≡◌, ℕ, ◌+◌, ◌*◌, ◌≤◌, Bool, true, false, not, cond, List, [], ◌∷◌, length, length-append, Option, Some, None, option_map, ap, arith}
use Rattle.std.specs.List.{filter_map, flat_map, list_any, cons_option}
use Rattle.rtp_ext.specs.declared.form.ExtensionsForm.{ExtensionsForm}
use Rattle.rtp_ext.specs.declared.form.ExtensionsForm.TheVariants.{OneByte, TwoByte}
use Rattle.rtp_ext.specs.Elements.{Element, element_bytes, elements_bytes, piece_bytes, AreElements}
use Rattle.rtp_ext.specs.ElementsInPlace.{renumbered}
use Rattle.rtp_ext.specs.PutElement.{has_id, without, put_element}
use Rattle.rtp_wire.specs.PutIntoPacket.{elements_with}

abbrev pub wide : List Element → ℕ
wide elements = length (elements_bytes TwoByte elements)

abbrev pub wide_of : Element → ℕ
wide_of element = 2 + length element.1

pub wide-more : (element : Element) (elements : List Element) → wide (element ∷ elements) ≡ wide_of element + wide elements
wide-more element elements = omega (arith, length-append (element_bytes TwoByte element) (elements_bytes TwoByte elements))

pub each-wide : (form : ExtensionsForm) (elements : List Element) → length (elements_bytes form elements) ≤ wide elements
each-wide OneByte [] = omega arith
each-wide OneByte (element ∷ elements) =
    omega (arith, each-wide OneByte elements, wide-more element elements, length-append (element_bytes OneByte element) (elements_bytes OneByte elements))
each-wide TwoByte elements = omega arith

twice : (form : ExtensionsForm) (elements : List Element) → wide elements ≤ 2 * length (elements_bytes form elements)
twice OneByte [] = omega arith
twice OneByte (element ∷ elements) =
    omega (arith, twice OneByte elements, wide-more element elements, length-append (element_bytes OneByte element) (elements_bytes OneByte elements))
twice TwoByte elements = omega arith

pieces-short : (form : ExtensionsForm) (pieces : List (Option Element)) → length (elements_bytes form (filter_map (λ piece. piece) pieces)) ≤ length (flat_map (piece_bytes form) pieces)
pieces-short form [] = omega arith
pieces-short form (None ∷ pieces) = omega (arith, pieces-short form pieces)
pieces-short form (Some element ∷ pieces) =
    omega (
      arith,
      pieces-short form pieces,
      length-append (element_bytes form element) (elements_bytes form (filter_map (λ piece. piece) pieces)),
      length-append (element_bytes form element) (flat_map (piece_bytes form) pieces),
    )

-- the elements of a body take at most twice its bytes
pub wide-body : (form : ExtensionsForm) (body : List ℕ) (elements : List Element) → AreElements form body elements → wide elements ≤ 2 * length body
wide-body form body elements are =
    omega (
      arith,
      twice form elements,
      ap (λ (es : List Element). length (elements_bytes form es)) are.elements_are,
      pieces-short form are.pieces,
      ap length are.body_is,
      length-append (flat_map (piece_bytes form) are.pieces) are.tail,
    )

wide-option : (element : Element) (rest : List Element) (id : Option ℕ) → wide (cons_option (option_map (λ (k : ℕ). (k, element.1)) id) rest) ≤ wide_of element + wide rest
wide-option element rest None = omega arith
wide-option element rest (Some id) = omega (arith, wide-more (id, element.1) rest)

pub wide-renumbered : (ids : ℕ → Option ℕ) (elements : List Element) → wide (filter_map (renumbered ids) elements) ≤ wide elements
wide-renumbered ids [] = omega arith
wide-renumbered ids (element ∷ elements) =
    omega (arith, wide-renumbered ids elements, wide-option element (filter_map (renumbered ids) elements) (ids element.0), wide-more element elements)

wide-kept : (element : Element) (rest : List Element) (kept : Bool) → wide (cond kept (element ∷ rest) rest) ≤ wide_of element + wide rest
wide-kept element rest true = omega (arith, wide-more element rest)
wide-kept element rest false = omega arith

pub wide-without : (id : ℕ) (elements : List Element) → wide (without id elements) ≤ wide elements
wide-without id [] = omega arith
wide-without id (element ∷ elements) =
    omega (arith, wide-without id elements, wide-kept element (without id elements) (not (has_id id element)), wide-more element elements)

wide-either : (new element : Element) (elements put : List Element) (here later : Bool) → wide put ≤ wide elements + wide_of new
    → wide (cond here (cond later put (new ∷ elements)) (element ∷ put)) ≤ wide_of element + wide elements + wide_of new
wide-either new element elements put true true short = omega (arith, short)
wide-either new element elements put true false short = omega (arith, wide-more new elements)
wide-either new element elements put false later short = omega (arith, short, wide-more element put)

wide-put : (new : Element) (elements : List Element) → wide (put_element new elements) ≤ wide elements + wide_of new
wide-put new [] = omega (arith, wide-more new [])
wide-put new (element ∷ elements) =
    omega (
      arith,
      wide-either new element elements (put_element new elements) (has_id new.0 element) (list_any (has_id new.0) elements) (wide-put new elements),
      wide-more element elements,
    )

pub wide-with : (new : Element) (elements : List Element) → wide (elements_with new elements) ≤ wide elements + wide_of new
wide-with new elements = omega (arith, wide-put new (without 0 elements), wide-without 0 elements)
