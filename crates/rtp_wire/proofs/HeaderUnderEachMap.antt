-- A packet begins with a header under each map.
use Rattle.rtp_wire.proofs.Common.{◌≡◌, ℕ, Bool, true, false, List, ◌++◌, take, drop, Option, Some, None, refl, sym, subst, take-append-drop, concat, ExtensionsForm, ExtensionMap, AreBytes, ExtensionValues, no_values, PacketParts, IsAnnounced, IsPacket, HasValues, header_of, IsWire}
use Rattle.rtp_ext.proofs.ValuesFound.{AreBytes-front, AreBytes-back, values_found}
use Rattle.rtp_wire.proofs.PartsLemmas.{announced}
use Rattle.rtp_wire.proofs.ValuesLemmas.{HasValues-none}

-- what X announces gives some values
values_announced : (exts : ExtensionMap) (extension : Bool) (block : Option (ExtensionsForm × List ℕ)) (part : List ℕ) → AreBytes part → IsAnnounced extension block part
    → (values : ExtensionValues) × HasValues exts block values
values_announced exts false None part all is = (no_values, HasValues-none exts None no_values refl refl)
values_announced exts false (Some block) part all is = absurd is
values_announced exts true None part all is = absurd is
values_announced exts true (Some block) part all is =
    let body : AreBytes block.1 = subst AreBytes (sym is.body_is) (AreBytes-back (take 4 part) (drop 4 part) (subst AreBytes (sym (take-append-drop 4 part)) all)) in
    let found = values_found exts block.0 block.1 body in
    (found.0, record { elements = found.1.elements; are_elements = found.1.are_elements; are_values = found.1.are_values })

pub header_found : (exts : ExtensionMap) (bytes : List ℕ) (parts : PacketParts) → AreBytes bytes → IsPacket bytes parts → parts.other_block ≡ None → (values : ExtensionValues) × IsWire exts bytes (header_of parts values)
header_found exts bytes parts all is none =
    let after_fixed : AreBytes (concat is.groups ++ (is.part ++ parts.payload)) = AreBytes-back is.fixed (concat is.groups ++ (is.part ++ parts.payload)) (subst AreBytes is.in_order all) in
    let part : AreBytes is.part = AreBytes-front is.part parts.payload (AreBytes-back (concat is.groups) (is.part ++ parts.payload) after_fixed) in
    let found = values_announced exts parts.has_extension parts.block is.part part (announced parts.has_extension parts.block parts.other_block is.part none is.part_is) in
    (found.0, record { parts = parts; is_packet = is; no_other = none; is_header = record { fields_are = refl; values_are = found.1 } })
