-- What holds of each known kind, and two kinds are one or not.
use Rattle.std.proofs.Common.{◌≡◌, ◌≢◌, ◌⊎◌, inl, inr, ℕ, List, length, Bool, true, false, Option, Some, None, rules, refl, sym, ap, ◌∙◌}
use Rattle.std.specs.Prelude.{slice_index_or}
use Rattle.std.specs.Bool.{Decides}
use Rattle.std.proofs.lemmas.Bool.Decides.{not_from_Decides}
use Rattle.rtp_values.specs.contracts.kind.ExtensionPartialEq.TheImpl as extension_eq
use Rattle.rtp_values.specs.declared.kind.Extension.{Extension}
use Rattle.rtp_values.specs.declared.kind.Extension.TheVariants.{UnknownUri}
use Rattle.rtp_values.specs.declared.known_kind.KnownKind.{KnownKind}
use Rattle.rtp_values.specs.declared.known_kind.KnownKind.TheVariants as known
use Rattle.rtp_values.specs.Kind.{kind_of, IsKnown}
use Rattle.rtp_values.specs.KnownKind.{extension_of_kind, every_kind, place}

-- an unknown one is its URI
pub unknown_is : (kind : Extension) → (IsKnown kind → ⊥) → UnknownUri (kind_of kind).uri ≡ kind
unknown_is (UnknownUri uri) unknown = refl
unknown_is _ unknown = absurd (unknown (tt {0}))

-- whether two kinds are one
pub extension_decides : (a b : Extension) → Decides ((extension_eq.ghosts).eq a b) (a ≡ b)
extension_decides a b = search rules

holds_or_not : {P : Type 0} (test : Bool) → Decides test P → P ⊎ (P → ⊥)
holds_or_not true decides = inl (decides.0 refl)
holds_or_not false decides = inr (not_from_Decides false decides refl)

pub same_or_not : (a b : Extension) → (a ≡ b) ⊎ (a ≢ b)
same_or_not a b = holds_or_not _ (extension_decides a b)

pub one_kind : {a b : Extension} → Some a ≡ Some b → a ≡ b
one_kind same = cc

-- what holds of each known kind holds of the extensions that they are
pub each_known : (P : Extension → Type 0) → ((kind : KnownKind) → P (extension_of_kind kind)) → (kind : Extension) → IsKnown kind → P kind
each_known P all (UnknownUri uri) is_known = absurd is_known
each_known P all kind is_known = all (slice_index_or every_kind (place kind) known.ColorSpace)

-- the extension of a known kind is known
pub kind_is_known : (kind : KnownKind) → IsKnown (extension_of_kind kind)
kind_is_known known.AbsoluteSendTime = tt
kind_is_known _ = tt

delay_or_not : (kind : KnownKind) → (kind ≡ known.PlayoutDelay) ⊎ (kind ≢ known.PlayoutDelay)
delay_or_not known.PlayoutDelay = inl refl
delay_or_not _ = inr (λ same. cc)

-- a text that is the URI of no kind: not of the one that its length leaves, if it leaves one, and not of the playout delay
pub no_kind_has : (uri : List ℕ) (found : Option KnownKind)
    → ((kind : KnownKind) → kind ≢ known.PlayoutDelay → length (kind_of (extension_of_kind kind)).uri ≡ length uri → found ≡ Some kind)
    → ((kind : KnownKind) → found ≡ Some kind → (kind_of (extension_of_kind kind)).uri ≢ uri)
    → (found ≡ None) ⊎ ((kind_of (extension_of_kind known.PlayoutDelay)).uri ≢ uri)
    → (kind : Extension) → IsKnown kind → (kind_of kind).uri ≢ uri
no_kind_has uri found only not_found not_delay = each_known (λ kind. (kind_of kind).uri ≢ uri) λ kind same.
    elim (delay_or_not kind) [
      | inl delay ↦ elim not_delay [
        | inl none ↦
            let long : length (kind_of (extension_of_kind known.PlayoutDelay)).uri ≡ length uri =
            ap (λ (k : KnownKind). length (kind_of (extension_of_kind k)).uri) (sym delay) ∙ ap length same in
            let other = sym none ∙ only known.AbsoluteSendTime (λ is. cc) long in cc
        | inr other ↦ other (ap (λ (k : KnownKind). (kind_of (extension_of_kind k)).uri) (sym delay) ∙ same)
      ]
      | inr other ↦ not_found kind (only kind other (ap length same)) same
    ]
