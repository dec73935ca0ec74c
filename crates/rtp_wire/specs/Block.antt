-- The block of header extensions (RFC 3550, 5.3.1; RFC 8285, 4.2 and 4.3).
--
--  0                   1                   2                   3
--  0 1 2 3 4 5 6 7 8 9 0 1 2 3 4 5 6 7 8 9 0 1 2 3 4 5 6 7 8 9 0 1
-- |      defined by profile       |           length              |
-- |                        header extension                       |
use Rattle.std.specs.Prelude.{◌≡◌, ℕ, ◌+◌, ◌*◌, List, length, drop, slice_range}
use Rattle.std.specs.Int.{w16, from_be_bytes}
use Rattle.rtp_ext.specs.declared.form.ExtensionsForm.{ExtensionsForm}
use Rattle.rtp_ext.specs.Form.{IsFormWord}

-- the word in two bytes, the high one first
abbrev pub word_at : List ℕ → ℕ → ℕ
word_at bytes offset = from_be_bytes w16 (slice_range bytes offset (offset + 2))

-- a block: the word of its form, the number of 32-bit words after these four bytes, and those words, the body
pub record IsBlock (block : List ℕ) (form : ExtensionsForm) (body : List ℕ) : Type 0 where
  pub form_is : IsFormWord (word_at block 0) form
  pub words : length block ≡ 4 + 4 * word_at block 2
  pub body_is : body ≡ drop 4 block

-- the word is that of neither form
abbrev pub IsNoFormWord : ℕ → Type 0
IsNoFormWord word = (form : ExtensionsForm) → IsFormWord word form → ⊥

-- a block of another form: the 16 bits that the profile defines, which are no form's word, the number of 32-bit words after these four bytes, and those words, the body
pub record IsOtherBlock (block : List ℕ) (profile : ℕ) (body : List ℕ) : Type 0 where
  pub profile_is : profile ≡ word_at block 0
  pub no_form : IsNoFormWord profile
  pub words : length block ≡ 4 + 4 * word_at block 2
  pub body_is : body ≡ drop 4 block
