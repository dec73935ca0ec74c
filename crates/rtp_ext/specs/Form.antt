-- The two forms of a header extension block (RFC 8285, 4.2 and 4.3).
use Rattle.std.specs.Prelude.{◌≡◌, ℕ, ◌≤◌}
use Rattle.rtp_ext.specs.declared.form.ExtensionsForm.{ExtensionsForm}
use Rattle.rtp_ext.specs.declared.form.ExtensionsForm.TheVariants.{OneByte, TwoByte}

-- the word at the front of a written block: 0xBEDE, or 0x100 and the four application bits, all clear
abbrev pub form_word : ExtensionsForm → ℕ
form_word OneByte = 0xBEDE
form_word TwoByte = 0x1000

-- the words that a block of the form may begin with: a reader passes over the application bits
abbrev pub IsFormWord : ℕ → ExtensionsForm → Type 0
IsFormWord word OneByte = word ≡ 0xBEDE
IsFormWord word TwoByte = (0x1000 ≤ word) × (word ≤ 0x100F)
