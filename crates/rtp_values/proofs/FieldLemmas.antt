-- The fields of a kind: what data say of them is one, and fields that are the same.
use Rattle.std.proofs.Common.{◌≡◌, ◌≢◌, ℕ, List, [], ◌∷◌, Option, Some, None, IsSomeAnd, ap, refl, sym, ◌∙◌, subst}
use Rattle.rtp_base.specs.Id.{IsIdOf}
use Rattle.rtp_vla.specs.Allocation.{Allocation, Means}
use Rattle.rtp_vla.proofs.AllocationMeaning.{one_meaning}
use Rattle.rtp_values.specs.declared.kind.Extension.{Extension}
use Rattle.rtp_values.specs.declared.kind.Extension.TheVariants.{AudioLevel, PlayoutDelay, RtpStreamId, RepairedRtpStreamId, RtpMid, ColorSpace, VideoLayersAllocation, UnknownUri}
use Rattle.rtp_values.specs.declared.known_kind.KnownKind.{KnownKind}
use Rattle.rtp_values.specs.declared.value.values.ExtensionValues.{ExtensionValues}
use Rattle.rtp_values.specs.KnownKind.{extension_of_kind, every_kind}
use Rattle.rtp_values.specs.Values.{Reads, with_fields, SameFields}
use Rattle.rtp_values.specs.KindBytes.{ReadsInto}

-- two values of one text are one
IsSomeAnd-one : (size : ℕ) (text : List ℕ) (v w : Option (List ℕ)) → IsSomeAnd v (IsIdOf size text) → IsSomeAnd w (IsIdOf size text) → w ≡ v
IsSomeAnd-one size text None w v_is w_is = absurd v_is
IsSomeAnd-one size text (Some v) None v_is w_is = absurd w_is
IsSomeAnd-one size text (Some v) (Some w) v_is w_is = ap Some (w_is.kept ∙ sym v_is.kept)

-- two allocations that one data mean are one
meaning-one : (bytes : List ℕ) (v w : Option Allocation) → IsSomeAnd v (Means bytes) → IsSomeAnd w (Means bytes) → w ≡ v
meaning-one bytes None w v_is w_is = absurd v_is
meaning-one bytes (Some v) None v_is w_is = absurd w_is
meaning-one bytes (Some v) (Some w) v_is w_is = ap Some (one_meaning bytes w v w_is v_is)

-- what data say is one, in each field of the kind
pub Reads-one : (kind : Extension) (bytes : List ℕ) (v w : ExtensionValues) → Reads kind bytes v → Reads kind bytes w → SameFields kind v w
Reads-one AudioLevel bytes v w v_reads w_reads = rw (w_reads.1 ∙ sym v_reads.1, w_reads.2 ∙ sym v_reads.2) refl
Reads-one PlayoutDelay bytes v w v_reads w_reads = rw (w_reads.1 ∙ sym v_reads.1, w_reads.2 ∙ sym v_reads.2) refl
Reads-one RtpStreamId bytes v w v_reads w_reads = rw (IsSomeAnd-one 8 bytes v.rid w.rid v_reads.1 w_reads.1) refl
Reads-one RepairedRtpStreamId bytes v w v_reads w_reads = rw (IsSomeAnd-one 8 bytes v.rid_repair w.rid_repair v_reads.1 w_reads.1) refl
Reads-one RtpMid bytes v w v_reads w_reads = rw (IsSomeAnd-one 16 bytes v.mid w.mid v_reads.1 w_reads.1) refl
Reads-one VideoLayersAllocation bytes v w v_reads w_reads = rw (meaning-one bytes v.video_layers_allocation w.video_layers_allocation v_reads w_reads) refl
Reads-one ColorSpace bytes v w v_reads w_reads = absurd v_reads
Reads-one (UnknownUri uri) bytes v w v_reads w_reads = absurd v_reads
Reads-one _ bytes v w v_reads w_reads = rw (w_reads.1 ∙ sym v_reads.1) refl

-- the same fields say the same: of the values with these fields the data say what they say of the others
pub Reads-same : (kind : Extension) (bytes : List ℕ) (v w : ExtensionValues) → Reads kind bytes v → SameFields kind v w → Reads kind bytes w
Reads-same (UnknownUri uri) bytes v w reads same = absurd reads
Reads-same kind bytes v w reads same = subst (Reads kind bytes) (sym same) reads

-- the fields of fields that are taken from others are theirs
fields-twice : (kind : Extension) (u v w : ExtensionValues) → with_fields kind u (with_fields kind v w) ≡ with_fields kind u w
fields-twice (UnknownUri uri) u v w = refl
fields-twice _ u v w = refl

pub SameFields-refl : (kind : Extension) (v : ExtensionValues) → SameFields kind v v
SameFields-refl (UnknownUri uri) v = refl
SameFields-refl _ v = refl

pub SameFields-taken : (kind : Extension) (old new : ExtensionValues) → SameFields kind new (with_fields kind old new)
SameFields-taken kind old new = fields-twice kind new old new ∙ SameFields-refl kind new

pub SameFields-sym : (kind : Extension) (v w : ExtensionValues) → SameFields kind v w → SameFields kind w v
SameFields-sym kind v w same = ap (with_fields kind w) (sym same) ∙ SameFields-taken kind v w

pub SameFields-trans : (kind : Extension) (u v w : ExtensionValues) → SameFields kind u v → SameFields kind v w → SameFields kind u w
SameFields-trans kind u v w uv vw = sym (fields-twice kind u v w) ∙ ap (with_fields kind u) vw ∙ uv

pub SameFields-joined : (kind : Extension) (u v w : ExtensionValues) → SameFields kind u v → SameFields kind u w → SameFields kind v w
SameFields-joined kind u v w uv uw = SameFields-trans kind v u w (SameFields-sym kind u v uv) uw

-- no field of another kind is taken
pub SameFields-others : (kind other : Extension) (old new : ExtensionValues) → other ≢ kind → SameFields other old (with_fields kind old new)
SameFields-others (UnknownUri uri) any old new other = SameFields-refl any old
SameFields-others any (UnknownUri uri) old new other = refl
SameFields-others _ _ old new other = search other

-- the fields of these kinds are taken, one kind after another
fields_of_kinds : List KnownKind → ExtensionValues → ExtensionValues → ExtensionValues
fields_of_kinds [] old new = old
fields_of_kinds (kind ∷ kinds) old new = with_fields (extension_of_kind kind) (fields_of_kinds kinds old new) new

all_stay : (kinds : List KnownKind) (v w : ExtensionValues) → ((kind : Extension) → SameFields kind v w) → fields_of_kinds kinds v w ≡ v
unfolding fields_of_kinds
all_stay [] v w same = refl
all_stay (kind ∷ kinds) v w same = ap (λ u. with_fields (extension_of_kind kind) u w) (all_stay kinds v w same) ∙ same (extension_of_kind kind)

-- each field is one of a kind
each_is_taken : (v w : ExtensionValues) → fields_of_kinds every_kind v w ≡ w
unfolding fields_of_kinds
each_is_taken v w = refl

-- values all of whose fields are the same are one
pub same_values : (v w : ExtensionValues) → ((kind : Extension) → SameFields kind v w) → v ≡ w
same_values v w same = sym (all_stay every_kind v w same) ∙ each_is_taken v w

-- ---- what values read into themselves

-- values that show themselves are what the data say of the kind's fields, and no other is changed
pub ReadsInto-itself : (kind : Extension) (bytes : List ℕ) (old new : ExtensionValues) → ReadsInto (λ values shown. values ≡ shown) kind bytes old new
    → Reads kind bytes new × (new ≡ with_fields kind old new)
ReadsInto-itself kind bytes old new into =
    let read = into old refl in
    subst (λ v. Reads kind bytes v × (v ≡ with_fields kind old v)) (sym read.1) (read.2, read.3)
