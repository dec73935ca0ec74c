-- An element whose data are moved towards the front of a body, behind a new header.
use Rattle.std.proofs.Common.{◌≡◌, ℕ, ◌+◌, ◌-◌, ◌≤◌, List, ◌++◌, length, take, drop, append_assoc, length-append, length-drop, length-take-le, arith, refl, sym, ap, ◌∙◌}
use Rattle.std.proofs.lemmas.List.{take_at, drop_at, take-append-le, take-take, drop-drop}
use lib.Seq.{paste}
use Rattle.rtp_base.specs.Overwriting.{overwritten}

-- from `end` on stand the header and so many data, and from `stop` on what stood after the data
pub record IsMoved (body new : List ℕ) (end n stop : ℕ) (header bytes after : List ℕ) : Type 0 where
  pub front_is : take (end + (length header + n)) new ≡ take end body ++ (header ++ bytes)
  pub after_is : drop stop new ≡ after
  pub as_long : length new ≡ length body

-- data that stood behind another header are copied, and then the header is written in front of them
pub moved : (body copied new : List ℕ) (at end start n : ℕ) (old header bytes after : List ℕ) → drop at body ≡ old ++ (bytes ++ after) → start ≡ at + length old → n ≡ length bytes
    → end + (length header + n) ≤ start + n → start + n ≤ length body → copied ≡ paste body (end + length header) (drop start body) n → new ≡ overwritten copied end header
    → IsMoved body new end n (start + n) header bytes after
unfolding overwritten
moved body copied new at end start n old header bytes after split start_is count ahead within copied_is new_is =
    let k : ℕ = length header in
    let there : drop start body ≡ bytes ++ after =
    ap (λ (j : ℕ). drop j body) start_is ∙ (sym (drop-drop (length old) at body) ∙ (ap (drop (length old)) split ∙ drop_at old (bytes ++ after) (length old) refl)) in
    let data_is : take n (drop start body) ≡ bytes = ap (take n) there ∙ take_at bytes after n (sym count) in
    let rest : List ℕ = drop (end + k + n) body in
    let parts : copied ≡ take (end + k) body ++ (bytes ++ rest) =
    copied_is ∙ (append_assoc (take (end + k) body) (take n (drop start body)) rest ∙ ap (λ b. take (end + k) body ++ (b ++ rest)) data_is) in
    let head : take end copied ≡ take end body =
    ap (take end) parts ∙ (take-append-le end (take (end + k) body) (bytes ++ rest) (omega (arith, length-take-le (end + k) body (omega arith)))
    ∙ take-take end (end + k) body (omega arith)) in
    let tail : drop (end + k) copied ≡ bytes ++ rest =
    ap (drop (end + k)) parts ∙ drop_at (take (end + k) body) (bytes ++ rest) (end + k) (length-take-le (end + k) body (omega arith)) in
    let whole : new ≡ (take end body ++ (header ++ bytes)) ++ rest =
    new_is ∙ (ap (λ b. b ++ (header ++ drop (end + k) copied)) head ∙ (ap (λ b. take end body ++ (header ++ b)) tail
    ∙ (ap (λ b. take end body ++ b) (sym (append_assoc header bytes rest)) ∙ sym (append_assoc (take end body) (header ++ bytes) rest)))) in
    let front : length (take end body ++ (header ++ bytes)) ≡ end + (k + n) =
    omega (arith, count, length-append (take end body) (header ++ bytes), length-append header bytes, length-take-le end body (omega arith)) in
    let m : ℕ = start + n - (end + (k + n)) in
    let later : start + n ≡ end + (k + n) + m = omega arith in
    let e : end + k + n ≡ end + (k + n) = omega arith in
    record {
      front_is = ap (take (end + (k + n))) whole ∙ take_at (take end body ++ (header ++ bytes)) rest (end + (k + n)) front;
      after_is = ap (λ (j : ℕ). drop j new) later ∙ (sym (drop-drop m (end + (k + n)) new)
          ∙ (ap (drop m) (ap (drop (end + (k + n))) whole ∙ (drop_at (take end body ++ (header ++ bytes)) rest (end + (k + n)) front ∙ ap (λ (j : ℕ). drop j body) e))
          ∙ (drop-drop m (end + (k + n)) body ∙ (ap (λ (j : ℕ). drop j body) (sym later)
          ∙ (sym (drop-drop n start body) ∙ (ap (drop n) there ∙ drop_at bytes after n (sym count)))))));
      as_long = omega (arith, ap length whole, length-append (take end body ++ (header ++ bytes)) rest, length-drop (end + k + n) body, front);
    }
