-- What is left out of a header, with X clear and with X set.
use Rattle.std.proofs.Common.{◌≡◌, ◌↔◌, List, Bool, true, false, refl, sym, ap, ◌∙◌, subst}
use Rattle.rtp_ext.specs.declared.map.ExtensionMap.{ExtensionMap}
use Rattle.rtp_values.specs.declared.known_kind.KnownKind.{KnownKind}
use Rattle.rtp_values.specs.declared.value.values.ExtensionValues.{ExtensionValues}
use Rattle.rtp_values.specs.KindSet.{has, HasValue}
use Rattle.rtp_values.specs.KnownKind.{extension_of_kind}
use Rattle.rtp_values.specs.Values.{no_values, SameFields}
use Rattle.rtp_values.proofs.FieldLemmas.{SameFields-refl}
use Rattle.rtp_ext.specs.WrittenBlock.{image_values, IsLeftOut}
use Rattle.rtp_wire.specs.declared.header.rtp_header.RtpHeader.{RtpHeader}
use Rattle.rtp_wire.specs.Written.{carried_image, image_of, with_values}

values-read : (exts : ExtensionMap) (h : RtpHeader) → (image_of exts h).ext_vals ≡ carried_image exts h.has_extension h.ext_vals
unfolding image_of
values-read exts h = refl

-- all that is there
pub left-clear : (exts : ExtensionMap) (h : RtpHeader) (values : ExtensionValues) (flags : List Bool) → h.has_extension ≡ false
    → ((kind : KnownKind) → (has flags kind ≡ true) ↔ HasValue (extension_of_kind kind) values)
    → (kind : KnownKind) → (has flags kind ≡ true) ↔ IsLeftOut values (image_of exts (with_values h values)).ext_vals (extension_of_kind kind)
left-clear exts h values flags clear are kind =
    let image : (image_of exts (with_values h values)).ext_vals ≡ no_values =
    values-read exts (with_values h values) ∙ ap (λ (x : Bool). carried_image exts x values) clear in (
      λ set. (
        (are kind).0 set,
        subst (SameFields (extension_of_kind kind) no_values) (sym image) (SameFields-refl (extension_of_kind kind) no_values),
      ),
      λ out. (are kind).1 out.0,
    )

-- what the block leaves out
pub left-set : (ids exts : ExtensionMap) (h : RtpHeader) (values : ExtensionValues) (flags : List Bool) → ids ≡ exts → h.has_extension ≡ true
    → ((kind : KnownKind) → (has flags kind ≡ true) ↔ IsLeftOut values (image_values ids values) (extension_of_kind kind))
    → (kind : KnownKind) → (has flags kind ≡ true) ↔ IsLeftOut values (image_of exts (with_values h values)).ext_vals (extension_of_kind kind)
left-set ids exts h values flags same announced are kind =
    let image : (image_of exts (with_values h values)).ext_vals ≡ image_values ids values =
    values-read exts (with_values h values) ∙ ap (λ (x : Bool). carried_image exts x values) announced
    ∙ ap (λ (slots : ExtensionMap). image_values slots values) (sym same) in
    subst (λ (read : ExtensionValues). (has flags kind ≡ true) ↔ IsLeftOut values read (extension_of_kind kind)) (sym image) (are kind)
