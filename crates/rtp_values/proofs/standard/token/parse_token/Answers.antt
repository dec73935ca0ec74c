use Rattle.std.proofs.Common.{arith, rules, ◌<◌, ℕ, List, length, inl, inr}
use Rattle.std.specs.Prelude.{IsTrue, slice_index}
use Rattle.std.proofs.lemmas.Bool.{cases_lt}
use Rattle.std.proofs.lemmas.Bool.Decides.{nat_tests}
use Rattle.std.proofs.lemmas.List.{get_or_past}
use Rattle.std.proofs.lemmas.Str.{IsUtf8-from_ascii}
use Rattle.rtp_values.specs.StandardToken.{is_token_char, IsToken}
use Rattle.rtp_values.proofs.standard.token.parse_token.Goals as goal

char_ascii : (c : ℕ) → IsTrue (is_token_char c) → c < 128
char_ascii c is = grind (arith, nat_tests)

token_ascii : (bytes : List ℕ) → IsToken bytes → (i : ℕ) → slice_index bytes i < 128
token_ascii bytes is i =
    elim (cases_lt i (length bytes)) [
      | inl within ↦ char_ascii (slice_index bytes i) (is.chars i 0 within)
      | inr past ↦ omega (arith, get_or_past bytes i 0 past)
    ]

pub from_utf8_unchecked-requires : goal.from_utf8_unchecked-requires
from_utf8_unchecked-requires c =
    let token : IsToken c.args.bytes.now = search (rules, c.if-not-is_token.ensures) in
    IsUtf8-from_ascii c.args.bytes.now (token_ascii c.args.bytes.now token)
