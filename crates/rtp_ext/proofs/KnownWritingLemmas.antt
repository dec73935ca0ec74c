-- What a map writes is what its known extensions do.
use Rattle.rtp_ext.proofs.Common.{◌≡◌, List, ap, ◌∙◌, subst, Slots, items_from, known_slots, Element, elements_bytes, items_bytes, written_elements, image_values, AreValues, no_values, ExtensionsForm, ExtensionValues}
use Rattle.rtp_ext.proofs.WrittenBlockLemmas.{items_bytes-written}
use Rattle.rtp_ext.proofs.KnownItemsLemmas.{written_known, image_known}
use Rattle.rtp_ext.proofs.KindsByIdLemmas.{AreValues-known}

pub known_bytes : (form : ExtensionsForm) (exts known : Slots) (values : ExtensionValues) → known ≡ known_slots exts
    → items_bytes form values (items_from 0 known) ≡ elements_bytes form (written_elements exts values)
known_bytes form exts known values is =
    items_bytes-written form known values ∙ ap (λ (elements : List Element). elements_bytes form elements) (written_known exts known values is)

pub AreValues_by : (exts known : Slots) (values : ExtensionValues) → known ≡ known_slots exts
    → AreValues known (written_elements known values) no_values (image_values known values)
    → AreValues exts (written_elements exts values) no_values (image_values exts values)
AreValues_by exts known values is are =
    subst (λ (elements : List Element). AreValues exts elements no_values (image_values exts values)) (written_known exts known values is)
    (subst (λ (image : ExtensionValues). AreValues exts (written_elements known values) no_values image) (image_known exts known values is)
    (AreValues-known exts known (written_elements known values) no_values (image_values known values) is are))
