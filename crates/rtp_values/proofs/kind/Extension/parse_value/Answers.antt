use Rattle.std.proofs.Common.{◌≡◌, ◌≢◌, sym, subst, refl, List, ℕ, Option, Some, None, Result, Ok, Err}
use Rattle.std.specs.declared.alloc.AllocError.{AllocError}
use Rattle.rtp_values.specs.declared.kind.Extension.{Extension}
use Rattle.rtp_values.specs.declared.value.values.ExtensionValues.{ExtensionValues}
use Rattle.rtp_values.specs.Values.{Reads, with_fields}
use Rattle.rtp_values.specs.KindBytes.{ReadsInto}
use Rattle.rtp_values.proofs.FieldLemmas.{SameFields-refl, ReadsInto-itself}
use Rattle.rtp_values.proofs.kind.Extension.parse_value.Goals as goal

pub returns-in-Some-clause-found : goal.returns-in-Some-clause-found
returns-in-Some-clause-found c is =
    subst (λ kind. Reads kind c.args.buf.now c.parse_value.new.ev) (sym c.in-Some.ensures.known) (ReadsInto-itself _ c.args.buf.now c.args.ev.now c.parse_value.new.ev (c.parse_value.ensures.found is)).0

-- the fields of other kinds stay, whether the data are well-formed or not
others_stay : (kind : Extension) (bytes : List ℕ) (old new : ExtensionValues) (result : Result (Option (Unit {0})) AllocError)
    → (result ≡ Ok (Some (record {})) → ReadsInto (λ values shown. values ≡ shown) kind bytes old new)
    → (result ≢ Ok (Some (record {})) → new ≡ old) → new ≡ with_fields kind old new
others_stay kind bytes old new (Ok (Some read)) found unchanged = (ReadsInto-itself kind bytes old new (found refl)).1
others_stay kind bytes old new (Ok None) found unchanged = subst (λ v. v ≡ with_fields kind old v) (sym (unchanged (λ same. cc))) (sym (SameFields-refl kind old))
others_stay kind bytes old new (Err e) found unchanged = subst (λ v. v ≡ with_fields kind old v) (sym (unchanged (λ same. cc))) (sym (SameFields-refl kind old))

pub returns-in-Some-clause-others : goal.returns-in-Some-clause-others
returns-in-Some-clause-others c =
    subst (λ kind. c.parse_value.new.ev ≡ with_fields kind c.args.ev.now c.parse_value.new.ev) (sym c.in-Some.ensures.known)
    (others_stay _ c.args.buf.now c.args.ev.now c.parse_value.new.ev c.parse_value.result c.parse_value.ensures.found c.parse_value.ensures.unchanged)
