use Rattle.std.proofs.Common.{◌≢◌, Option, IfNone, inl, inr, sym, ap, ◌∙◌, subst}
use Rattle.std.proofs.lemmas.Bool.{false≢true}
use Rattle.std.proofs.lemmas.Option.{same_Some}
use Rattle.rtp_values.specs.declared.kind.Extension.{Extension}
use Rattle.rtp_values.specs.declared.known_kind.KnownKind.{KnownKind}
use Rattle.rtp_values.specs.Kind.{kind_of, IsKnown}
use Rattle.rtp_values.specs.KnownKind.{extension_of_kind}
use Rattle.rtp_values.proofs.KindLemmas.{no_kind_has}
use Rattle.rtp_values.proofs.known_kind.known_by_uri.Goals as goal

pub returns-in_err-kind-clause-none : goal.returns-in_err-kind-clause-none
returns-in_err-kind-clause-none c =
    subst (λ (found : Option KnownKind). IfNone found ((kind : Extension) → IsKnown kind → (kind_of kind).uri ≢ c.args.uri.now)) (sym c.from_residual.ensures)
    (no_kind_has c.args.uri.now c.kind_as_long.result c.kind_as_long.ensures (λ kind is. let none = sym is ∙ c.in_err-kind.was in cc) (inl c.in_err-kind.was))

pub returns-clause-none : goal.returns-clause-none
returns-clause-none c =
    let first = c.if-is_uri_of.ensures in
    let second = c.if-is_uri_of-2.ensures in
    no_kind_has c.args.uri.now c.kind_as_long.result c.kind_as_long.ensures
    (λ kind is same.
    let this = same_Some _ _ (sym is ∙ c.in_ok-kind.was) in
    false≢true (first.1 (ap (λ (k : KnownKind). (kind_of (extension_of_kind k)).uri) (sym this) ∙ same)))
    (inr (λ same. false≢true (second.1 same)))
