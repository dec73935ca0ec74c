use Rattle.rtp_c.proofs.Common.{rules, ◌≡◌, ◌<◌, ◌⊎◌, ◌++◌, ◌∙◌, ◌↔◌, ℕ, ℤ, pos, inl, inr, List, length, drop, Some, None, refl, sym, ap, subst, w32, to_z, of_z, ok, none, short_buffer, KnownKind}
use Rattle.rtp_c.specs.declared.bare_kind.BareKind.{BareKind}
use Rattle.rtp_c.specs.KindNumbers.{kind_number, kind_numbered, bare_number, NumberedKind, Known, Bare, number_of, uri_of, IsKindNumbered}
use Rattle.rtp_c.specs.StandardData.{StandAtFront}
use Rattle.rtp_c.proofs.KindNumberLemmas.{number_of_kind, numbered_is, one_numbered}
use Rattle.rtp_c.proofs.map.rtpw_uri_of_kind.Goals as goal

-- the number of the known kind that a number has
known_number : (number : ℕ) (known : KnownKind) → Some known ≡ kind_numbered number → kind_number known ≡ number
known_number number known found = subst (IsKindNumbered number) (sym found) (numbered_is number)

-- no kind has a number that is that of neither
no_kind : (number : ℕ) → None ≡ kind_numbered number → ((kind : BareKind) → bare_number kind ≡ number → ⊥) → (k : NumberedKind) → number_of k ≡ number → ⊥
no_kind number found none (Known kind) is = let both : None ≡ Some kind = found ∙ ap kind_numbered (sym is) ∙ number_of_kind kind in cc
no_kind number found none (Bare kind) is = none kind is

-- ---- the status of what was put

told : ℤ → ℤ
told status = to_z w32 (of_z w32 status)

is_told : (status : ℤ) → (status ≡ ok) ⊎ (status ≡ short_buffer) → told status ≡ status
unfolding told
is_told status (inl is) = let same : told status ≡ ok = ap told is in same ∙ sym is
is_told status (inr is) = let same : told status ≡ short_buffer = ap told is in same ∙ sym is

never_none : (status : ℤ) → (status ≡ ok) ⊎ (status ≡ short_buffer) → told status ≡ none → ⊥
never_none status (inl is) same = let wrong : pos 0 ≡ pos 11 = sym is ∙ sym (is_told status (inl is)) ∙ same in cc
never_none status (inr is) same = let wrong : pos 8 ≡ pos 11 = sym is ∙ sym (is_told status (inr is)) ∙ same in cc

module _ (found k : NumberedKind) (bytes : List ℕ) (uri : bytes ≡ uri_of found) (same : number_of k ≡ number_of found) where
  uri_is : bytes ≡ uri_of k
  uri_is = uri ∙ ap uri_of (one_numbered found k (sym same))

  put_uri : (old new : List ℕ) (len : ℕ) → StandAtFront bytes old new len → (new ≡ uri_of k ++ drop len old) × (len ≡ length (uri_of k))
  put_uri old new len stand = (
    stand.written ∙ ap (λ (them : List ℕ). them ++ drop len old) uri_is,
    stand.len_is ∙ ap length uri_is,
  )

  short_uri : (room : ℕ) (status : ℤ) → (status ≡ ok) ⊎ (status ≡ short_buffer) → (status ≡ short_buffer) ↔ (room < length bytes)
      → (told status ≡ short_buffer) ↔ (room < length (uri_of k))
  short_uri room status statuses short = (
    λ is. subst (λ (them : List ℕ). room < length them) uri_is (short.0 (sym (is_told status statuses) ∙ is)),
    λ less. is_told status statuses ∙ short.1 (subst (λ (them : List ℕ). room < length them) (sym uri_is) less),
  )

pub returns-in-Some-numbered-clause-none : goal.returns-in-Some-numbered-clause-none
unfolding told
returns-in-Some-numbered-clause-none c = (
  λ is. absurd (never_none c.put_data.result c.put_data.ensures.statuses is),
  λ nothing. absurd (nothing (Bare c.in-Some-numbered.bare) c.in-Some-numbered.ensures.found),
)

pub returns-in-None-clause-short : goal.returns-in-None-clause-short
returns-in-None-clause-short c k is = absurd (no_kind c.args.kind c.in_default.ensures c.in-None.ensures.none k is)

pub returns-in-None-clause-none : goal.returns-in-None-clause-none
returns-in-None-clause-none c = (λ _ k is. no_kind c.args.kind c.in_default.ensures c.in-None.ensures.none k is, λ _. refl)

pub returns-clause-written : goal.returns-clause-written
unfolding told
returns-clause-written c k is done =
    let uri : c.as_bytes-2.result.now ≡ uri_of (Known c.in-Some.known) = search rules in
    let same = is ∙ sym (known_number c.args.kind c.in-Some.known c.in-Some.ensures) in
    put_uri (Known c.in-Some.known) k c.as_bytes-2.result.now uri same c.args.buf.now c.put_data-2.new.buf c.put_data-2.new.len
    (c.put_data-2.ensures.written (sym (is_told c.put_data-2.result c.put_data-2.ensures.statuses) ∙ done))

pub returns-clause-short : goal.returns-clause-short
unfolding told
returns-clause-short c k is =
    let uri : c.as_bytes-2.result.now ≡ uri_of (Known c.in-Some.known) = search rules in
    let same = is ∙ sym (known_number c.args.kind c.in-Some.known c.in-Some.ensures) in
    short_uri (Known c.in-Some.known) k c.as_bytes-2.result.now uri same (length c.args.buf.now) c.put_data-2.result c.put_data-2.ensures.statuses c.put_data-2.ensures.short

pub returns-clause-none : goal.returns-clause-none
unfolding told
returns-clause-none c = (
  λ is. absurd (never_none c.put_data-2.result c.put_data-2.ensures.statuses is),
  λ nothing. absurd (nothing (Known c.in-Some.known) (known_number c.args.kind c.in-Some.known c.in-Some.ensures)),
)
