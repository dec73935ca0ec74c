use Rattle.std.proofs.Common.{ℕ, ◌≡◌, List, ◌∷◌, ◌++◌, slice_index_or, refl, ap, ◌∙◌, w32}
use Rattle.std.specs.Int.{to_be_bytes}
use Rattle.rtp_receive.specs.Reception.{lost_word}
use Rattle.rtp_receive.proofs.reception_report.ReceptionReport.to_block.Goals as goal

-- the bytes of a word, one by one
abbrev cells : List ℕ → List ℕ → List ℕ
cells word rest = slice_index_or word 0 0 ∷ slice_index_or word 1 0 ∷ slice_index_or word 2 0 ∷ slice_index_or word 3 0 ∷ rest

one_word : (word rest more : List ℕ) (n : ℕ) → word ≡ to_be_bytes w32 n → rest ≡ more → cells word rest ≡ to_be_bytes w32 n ++ more
one_word word rest more n e f = ap (λ (bytes : List ℕ). cells bytes rest) e ∙ ap (λ (bytes : List ℕ). cells (to_be_bytes w32 n) bytes) f

pub returns : goal.returns
returns c = one_word _ _ _ c.args.source (c.to_be_bytes.ensures ∙ ap (to_be_bytes w32) c.get.ensures)
    (one_word _ _ _ (lost_word c.args.self.now) (c.to_be_bytes-2.ensures ∙ ap (to_be_bytes w32) c.lost_word.ensures)
    (one_word _ _ _ _ c.to_be_bytes-3.ensures (one_word _ _ _ _ c.to_be_bytes-4.ensures
    (one_word _ _ _ _ c.to_be_bytes-5.ensures (one_word _ _ _ _ c.to_be_bytes-6.ensures refl)))))
