-- The header of a packet is one, bytes that are refused begin with none, and its values are one.
use Rattle.rtp_wire.proofs.Common.{◌≡◌, ◌≤◌, ℕ, List, length, Option, Some, None, arith, sym, ap, ◌∙◌, subst, ExtensionsForm, ExtensionMap, ExtensionValues, RtpHeader, Element, AreValues, no_values, HasNoHeader, PacketParts, IsPacket, AreElementsOf, HasValues, header_of, IsHeaderOf, IsWire, AreElements-only, one_values}
use Rattle.rtp_wire.proofs.NoHeaderLemmas.{header_there}
use Rattle.rtp_wire.proofs.PacketLemmas.{one_packet}
use Rattle.rtp_wire.proofs.PartsLemmas.{length-packet}

-- a block has one list of elements
pub one_list : (block : Option (ExtensionsForm × List ℕ)) (a b : List Element) → AreElementsOf block a → AreElementsOf block b → a ≡ b
one_list None a b a-is b-is = a-is ∙ sym b-is
one_list (Some block) a b a-are b-are = AreElements-only block.0 block.1 a a-are ∙ sym (AreElements-only block.0 block.1 b b-are)

-- and gives one set of values
pub one_value : (exts : ExtensionMap) (block : Option (ExtensionsForm × List ℕ)) (v w : ExtensionValues) → HasValues exts block v → HasValues exts block w → v ≡ w
one_value exts block v w has-v has-w =
    one_values exts has-w.elements no_values v w
    (subst (λ (es : List Element). AreValues exts es no_values v) (one_list block has-v.elements has-w.elements has-v.are_elements has-w.are_elements) has-v.are_values)
    has-w.are_values

-- parts have one header
pub one_header-parts : (exts : ExtensionMap) (parts : PacketParts) (h g : RtpHeader) → IsHeaderOf exts parts h → IsHeaderOf exts parts g → h ≡ g
one_header-parts exts parts h g is-h is-g =
    is-h.fields_are ∙ ap (header_of parts) (one_value exts parts.block h.ext_vals g.ext_vals is-h.values_are is-g.values_are) ∙ sym is-g.fields_are

-- bytes begin with one header at most
pub one_header : (exts : ExtensionMap) (bytes : List ℕ) (h g : RtpHeader) → IsWire exts bytes h → IsWire exts bytes g → h ≡ g
one_header exts bytes h g wire-h wire-g =
    let same : wire-h.parts ≡ wire-g.parts = sym (one_packet bytes wire-h.parts wire-h.is_packet) ∙ one_packet bytes wire-g.parts wire-g.is_packet in
    one_header-parts exts wire-g.parts h g (subst (λ (parts : PacketParts). IsHeaderOf exts parts h) same wire-h.is_header) wire-g.is_header

-- bytes that are refused begin with no header
pub no_header : (exts : ExtensionMap) (bytes : List ℕ) (h : RtpHeader) → HasNoHeader bytes → IsWire exts bytes h → ⊥
no_header exts bytes h none wire = header_there bytes wire.parts wire.is_packet wire.no_other none

-- what `parse` and `parse_into` promise of the header of a packet without a block of another form
pub record IsRead (exts : ExtensionMap) (bytes : List ℕ) (h : RtpHeader) : Type 0 where
  pub wire : IsWire exts bytes h
  pub only : (header : RtpHeader) → IsWire exts bytes header → h ≡ header
  pub within : h.header_len ≤ length bytes

pub IsRead-packet : (exts : ExtensionMap) (bytes : List ℕ) (parts : PacketParts) (h : RtpHeader) → IsPacket bytes parts → parts.other_block ≡ None → IsHeaderOf exts parts h
    → IsRead exts bytes h
IsRead-packet exts bytes parts h is known of-parts =
    let wire : IsWire exts bytes h = record { parts = parts; is_packet = is; no_other = known; is_header = of-parts } in
    record {
      wire = wire;
      only = λ header other. one_header exts bytes h header wire other;
      within = omega (arith, ap (λ (g : RtpHeader). g.header_len) of-parts.fields_are, length-packet bytes parts is);
    }

-- a header with the fields of a packet, given the values of its block
pub IsHeaderOf-read : (exts : ExtensionMap) (parts : PacketParts) (old values : ExtensionValues) (h : RtpHeader) → h ≡ header_of parts old
    → HasValues exts parts.block values → IsHeaderOf exts parts (record h { ext_vals = values })
IsHeaderOf-read exts parts old values h is has =
    record { fields_are = ap (λ (g : RtpHeader). record g { ext_vals = values }) is; values_are = has }
