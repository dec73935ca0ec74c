use Rattle.std.proofs.Common.{◌≡◌, ◌+◌, ◌-◌, ℕ, List, [], ◌∷◌, ◌++◌, take, drop, length, get_or, refl, sym, ap, ◌∙◌, arith}
use Rattle.rtp_base.specs.Overwriting.{overwritten}
use Rattle.rtp_base.proofs.OverwritingLemmas.{overwritten-overwritten, overwritten-copied}
use Rattle.rtp_route.proofs.slots.put_piece.Goals as goal

one : (bytes : List ℕ) → length bytes ≡ 1 → get_or bytes 0 0 ∷ [] ≡ bytes
one [] long = absurd (omega (arith, long))
one (x ∷ []) long = refl
one (x ∷ y ∷ bytes) long = absurd (omega (arith, long))

two : (bytes : List ℕ) → length bytes ≡ 2 → get_or bytes 0 0 ∷ get_or bytes 1 0 ∷ [] ≡ bytes
two [] long = absurd (omega (arith, long))
two (x ∷ bytes) long = ap (λ (b : List ℕ). x ∷ b) (one bytes (omega (arith, long)))

three : (bytes : List ℕ) → length bytes ≡ 3 → get_or bytes 0 0 ∷ get_or bytes 1 0 ∷ get_or bytes 2 0 ∷ [] ≡ bytes
three [] long = absurd (omega (arith, long))
three (x ∷ bytes) long = ap (λ (b : List ℕ). x ∷ b) (two bytes (omega (arith, long)))

four : (bytes : List ℕ) → length bytes ≡ 4 → get_or bytes 0 0 ∷ get_or bytes 1 0 ∷ get_or bytes 2 0 ∷ get_or bytes 3 0 ∷ [] ≡ bytes
four [] long = absurd (omega (arith, long))
four (x ∷ bytes) long = ap (λ (b : List ℕ). x ∷ b) (three bytes (omega (arith, long)))

pub returns-in-len1 : goal.returns-in-len1
returns-in-len1 c = c.put.ensures.written ∙ ap (overwritten c.args.buf.now c.args.at) (one c.args.piece.now (omega (arith, c.in-len1.len_at_least, c.in-len1.len_below)))

pub returns-in-len2 : goal.returns-in-len2
returns-in-len2 c = c.put-in-len2.ensures.written ∙ ap (overwritten c.args.buf.now c.args.at) (two c.args.piece.now (omega (arith, c.in-len2.len_at_least, c.in-len2.len_below)))

pub returns-in-len3 : goal.returns-in-len3
returns-in-len3 c =
    let bytes = c.args.piece.now in
    let long : length bytes ≡ 3 = omega (arith, c.in-len3.len_at_least, c.in-len3.len_below) in
    let first = get_or bytes 0 0 in
    let second = get_or bytes 1 0 in
    c.put-in-len3-2.ensures.written
    ∙ ap (λ (b : List ℕ). overwritten b (c.args.at + 2) (get_or bytes 2 0 ∷ [])) c.put-in-len3.ensures.written
    ∙ overwritten-overwritten c.args.buf.now (first ∷ second ∷ []) (get_or bytes 2 0 ∷ []) c.args.at (c.args.at + 2) (omega arith) (omega (arith, c.requires, long))
    ∙ ap (overwritten c.args.buf.now c.args.at) (three bytes long)

pub returns-in-len4 : goal.returns-in-len4
returns-in-len4 c = c.put-in-len4.ensures.written ∙ ap (overwritten c.args.buf.now c.args.at) (four c.args.piece.now (omega (arith, c.in-len4.len_at_least, c.in-len4.len_below)))

pub returns-in_default : goal.returns-in_default
returns-in_default c =
    let own_len : length c.args.piece.now ≡ length c.copy_long.new.buf = sym (ap length c.copy_long.ensures) in
    ap (λ (n : ℕ). take c.args.at c.args.buf.now ++ (c.copy_long.new.buf ++ drop (c.args.at + n - c.args.at) (drop c.args.at c.args.buf.now))) own_len
    ∙ overwritten-copied c.args.buf.now c.copy_long.new.buf c.args.at
    ∙ ap (overwritten c.args.buf.now c.args.at) c.copy_long.ensures
