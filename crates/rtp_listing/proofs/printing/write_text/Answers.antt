use Rattle.rtp_listing.proofs.Common.{◌≡◌, ℕ, ◌-◌, List, ◌++◌, length, take, drop, sym, ap, ◌∙◌, append_assoc, take-append-drop, Bor, take_rest, Appends-trans, Appends-kept}
use Rattle.rtp_listing.proofs.printing.write_text.Goals as goal
use Rattle.rtp_listing.proofs.printing.write_text.Goals.{in-Ok, in-Err}

-- what was written and what is left are all
moved : (all written rest : List ℕ) (n : ℕ) → all ≡ written ++ rest → all ≡ (written ++ take n rest) ++ take (length rest - n) (drop n rest)
moved all written rest n split =
    split ∙ ap (λ (xs : List ℕ). written ++ xs) (sym (take-append-drop n rest)) ∙ sym (append_assoc written (take n rest) (drop n rest))
    ∙ ap (λ (xs : List ℕ). (written ++ take n rest) ++ xs) (sym (take_rest rest n))

pub turns-preserved : goal.turns-preserved
turns-preserved g c =
    let (written, appended, split) = c.turns.invariant in
    let rest = c.turns.rest.now in
    elim c.match-write.branch [
      | in-Ok w ↦
          let front = take w.in-Ok.written rest in (
            written ++ front,
            Appends-trans _ _ _ _ _ appended w.in-Ok.ensures.bytes,
            moved c.args.text.now written rest w.in-Ok.written split ∙ ap (λ (r : Bor (List ℕ)). (written ++ front) ++ r.now) (sym w.rest-is),
          )
      | in-Err w ↦ (written, Appends-kept _ _ _ _ appended w.in-Err.ensures.bytes, split ∙ ap (λ (r : Bor (List ℕ)). written ++ r.now) (sym w.rest-is))
    ]
