-- Data that are put to the front of bytes, and then to the caller's buffer.
use Rattle.rtp_c.proofs.Common.{◌≡◌, ◌⊎◌, ℕ, ℤ, ok, short_buffer, bad_field, w32, to_z, of_z, List, ◌++◌, length, take, drop, Option, Some, None, IfSome, option_map, inl, inr, sym, ap, ◌∙◌, subst, take_at}
use Rattle.rtp_base.specs.Overwriting.{overwritten}
use Rattle.rtp_base.proofs.OverwritingLemmas.{overwritten-front}
use Rattle.rtp_c.specs.StandardData.{StandAtFront, PutsBytes, WritesData}
use Rattle.rtp_c.proofs.StatusLemmas.{bad_field≢ok, short_buffer≢bad_field}
use Rattle.rtp_c.proofs.WritingLemmas.{passed_on}

-- the bytes that are put stand at the front
pub StandAtFront-put : (old bytes new : List ℕ) (len : ℕ) → len ≡ length bytes → new ≡ overwritten old 0 bytes → StandAtFront bytes old new len
StandAtFront-put old bytes new len len_is put = record {
  len_is = len_is;
  written = put ∙ overwritten-front old bytes ∙ ap (λ (n : ℕ). bytes ++ drop n old) (sym len_is);
}

-- and so the front is what was put
pub front-put : (old bytes new : List ℕ) (len : ℕ) → len ≡ length bytes → new ≡ overwritten old 0 bytes → bytes ≡ take len new
front-put old bytes new len len_is put =
    sym (ap (take len) (put ∙ overwritten-front old bytes) ∙ take_at bytes (drop (length bytes) old) len (sym len_is))

-- where there is something to put
pub front-some_put : (old new : List ℕ) (bytes : Option (List ℕ)) (len : ℕ) → Some len ≡ option_map length bytes → IfSome bytes (λ b. new ≡ overwritten old 0 b)
    → bytes ≡ Some (take len new)
front-some_put old new None len len_is put = cc
front-some_put old new (Some b) len len_is put = let is : len ≡ length b = cc in ap Some (front-put old b new len is put)

-- data that are put, where the status is passed on
pub WritesData-put : {AreData : List ℕ → Type 0} {bytes old new : List ℕ} {old_len len : ℕ} {status : ℤ} → AreData bytes
    → PutsBytes bytes old new old_len len status → WritesData AreData old new old_len len (to_z w32 (of_z w32 status))
WritesData-put {AreData} {bytes} {old} {new} {old_len} {len} {status} are puts =
    let statuses : (status ≡ ok) ⊎ ((status ≡ short_buffer) ⊎ (status ≡ bad_field)) = elim puts.statuses [
      | inl is ↦ inl is
      | inr is ↦ inr (inl is)
    ] in
    subst (WritesData AreData old new old_len len) (passed_on status statuses) (record {
      written = λ is. record { bytes = bytes; are_data = are; stand = puts.written is };
      short = λ is. record { bytes = bytes; are_data = are; too_long = puts.short.0 is };
      is_bad = (
        λ is. elim puts.statuses [
          | inl done ↦ absurd (bad_field≢ok (sym is ∙ done))
          | inr short ↦ absurd (short_buffer≢bad_field (sym short ∙ is))
        ],
        λ nothing. absurd (nothing bytes are),
      );
      statuses = statuses;
      unchanged = puts.unchanged;
    })
