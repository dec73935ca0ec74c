-- The elements of bytes from the front on: what `Elements` holds.
use Rattle.std.specs.Prelude.{◌≡◌, ℕ, zero, suc, ◌+◌, ◌/◌, ◌%◌, List, [], ◌∷◌, ◌++◌, length, take, replicate, Option, Some, None, nat_lt, nat_le, ◌&&◌, if◌then◌else◌}
use Rattle.std.specs.Borrow.{Bor}
use Rattle.rtp_ext.specs.declared.form.ExtensionsForm.{ExtensionsForm}
use Rattle.rtp_ext.specs.declared.form.ExtensionsForm.TheVariants.{OneByte, TwoByte}
use Rattle.rtp_ext.specs.Elements.{Element, IsElement, element_bytes, IsTail}

-- the bytes after the padding at their front
unfoldable pub without_padding : List ℕ → List ℕ
without_padding [] = []
without_padding (zero ∷ bytes) = without_padding bytes
without_padding (suc byte ∷ bytes) = suc byte ∷ bytes

-- the element whose header begins with this byte, which is no padding, and how many of the bytes after it are the element's; none where it ends reading
abbrev pub element_at : ExtensionsForm → ℕ → List ℕ → Option (Element × ℕ)
element_at OneByte byte bytes =
    if nat_lt byte 240 && nat_lt (byte % 16) (length bytes)
    then Some ((byte / 16, take (byte % 16 + 1) bytes), byte % 16 + 1)
    else None
element_at TwoByte byte [] = None
element_at TwoByte byte (count ∷ bytes) =
    if nat_le count (length bytes) then Some ((byte, take count bytes), count + 1) else None

-- an element, followed by what is read of the bytes that are not its own; nothing where there is none
abbrev pub in_front : Option (Element × ℕ) → (ℕ → List Element) → List Element
in_front None others = []
in_front (Some found) others = found.0 ∷ others found.1

-- the elements of the bytes once `passed` of them are passed over
unfoldable pub elements_after : ExtensionsForm → ℕ → List ℕ → List Element
elements_after form passed [] = []
elements_after form (suc passed) (byte ∷ bytes) = elements_after form passed bytes
elements_after form zero (zero ∷ bytes) = elements_after form zero bytes
elements_after form zero (suc byte ∷ bytes) = in_front (element_at form (suc byte) bytes) (λ taken. elements_after form taken bytes)

-- the elements of the bytes
abbrev pub elements_left : ExtensionsForm → List ℕ → List Element
elements_left form bytes = elements_after form 0 bytes

-- bytes begin with padding and an element, and these bytes follow it
pub record BeginsWithElement (form : ExtensionsForm) (bytes : List ℕ) (element : Element) (after : List ℕ) : Type 0 where
  pub padding : ℕ
  pub is_element : IsElement form element
  pub bytes_are : bytes ≡ replicate padding 0 ++ (element_bytes form element ++ after)

-- bytes are padding and then what ends reading
pub record BeginsWithNoElement (form : ExtensionsForm) (bytes : List ℕ) : Type 0 where
  pub padding : ℕ
  pub tail : List ℕ
  pub is_tail : IsTail form tail
  pub bytes_are : bytes ≡ replicate padding 0 ++ tail

-- the first element of bytes, as its id, its data and the bytes after it, or that there is none
abbrev pub IsFirstElement : ExtensionsForm → List ℕ → Option (ℕ × Bor (List ℕ) × Bor (List ℕ)) → Type 0
IsFirstElement form bytes None = BeginsWithNoElement form bytes
IsFirstElement form bytes (Some first) = BeginsWithElement form bytes (first.0, first.1.now) first.2.now
