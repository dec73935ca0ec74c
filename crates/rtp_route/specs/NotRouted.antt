-- Why no header is made of a packet for a group of receivers: which call for one packet is refused, and for what cause (RFC 8285, 4.2, 4.3 and 5).
use Rattle.std.specs.Prelude.{◌≡◌, ◌≢◌, ℕ, ◌<◌, ◌≤◌, ◌⊎◌, List, length, Option, Some}
use Rattle.rtp_ext.specs.declared.form.ExtensionsForm.{ExtensionsForm}
use Rattle.rtp_ext.specs.declared.form.ExtensionsForm.TheVariants.{OneByte, TwoByte}
use Rattle.rtp_ext.specs.Elements.{Element}
use Rattle.rtp_wire.specs.declared.packet.fields.Fields.{Fields}
use Rattle.rtp_wire.specs.declared.packet.not_put.NotPut.{NotPut as NotPutCause}
use Rattle.rtp_wire.specs.Packet.{PacketParts, IsPacket}
use Rattle.rtp_wire.specs.PacketElements.{AreElementsOf}
use Rattle.rtp_wire.specs.PutIntoPacket.{IsFirstNotPut}
use Rattle.rtp_wire.specs.RemadeBlock.{KeepsFromForm}
use Rattle.rtp_route.specs.declared.not_routed.NotRouted.{NotRouted}
use Rattle.rtp_route.specs.declared.not_routed.NotRouted.TheVariants.{ManyElements, RepeatedId, LongId, NotPut}
use Rattle.rtp_route.specs.Calls.{IsSetAndRenumbered, no_fields}
use Rattle.rtp_route.specs.NotPutAmong.{HasNoRoom, IsNotPutAmong}
use Rattle.rtp_route.specs.Routing.{CarriesIds}
use Rattle.rtp_route.specs.Template.{HaveOwnIds}

-- one of the packet's elements has a new id that the form of its block can't carry
pub record HasLongId (old : List ℕ) (ids : ℕ → Option ℕ) : Type 0 where
  pub parts : PacketParts
  pub elements : List Element
  pub is_packet : IsPacket old parts
  pub are_elements : AreElementsOf parts.block elements
  pub not_carried : CarriesIds ids parts.block elements → ⊥

-- its block is to have the two-byte form for that, and `change_form` is refused for this cause, the first that applies
pub record IsFormNotChanged (old : List ℕ) (ids : ℕ → Option ℕ) (allowed : Option ExtensionsForm) (room : ℕ) (cause : NotPutCause) : Type 0 where
  pub long : HasLongId old ids
  pub is_allowed : allowed ≢ Some OneByte
  pub cause_is : IsFirstNotPut (KeepsFromForm old room (Some OneByte) TwoByte) cause

-- the cause for which the elements don't get their new ids in a buffer of so many bytes: one is too long for the one-byte form, which alone is allowed, or `change_form` is refused
abbrev pub KeepsFromNewIds : List ℕ → (ℕ → Option ℕ) → Option ExtensionsForm → ℕ → NotRouted → Type 0
KeepsFromNewIds old ids allowed room ManyElements = ⊥
KeepsFromNewIds old ids allowed room RepeatedId = ⊥
KeepsFromNewIds old ids allowed room LongId = HasLongId old ids × (allowed ≡ Some OneByte)
KeepsFromNewIds old ids allowed room (NotPut cause) = IsFormNotChanged old ids allowed room cause

-- the cause for which the calls make no header of the packet's in a buffer of so many bytes: it has no room for the packet's own, the elements don't get their new ids, or once they have them `put_element` is refused, for one of the group's
abbrev pub KeepsFromRouting : List ℕ → Fields → (ℕ → Option ℕ) → List Element → Option ExtensionsForm → ℕ → NotRouted → Type 0
KeepsFromRouting old fields ids news allowed room ManyElements = ⊥
KeepsFromRouting old fields ids news allowed room RepeatedId = ⊥
KeepsFromRouting old fields ids news allowed room LongId = (length old ≤ room) × KeepsFromNewIds old ids allowed room LongId
KeepsFromRouting old fields ids news allowed room (NotPut cause) =
    HasNoRoom old room cause
    ⊎ (((length old ≤ room) × KeepsFromNewIds old ids allowed room (NotPut cause))
    ⊎ ((start : List ℕ) × (length old ≤ room) × IsSetAndRenumbered old fields ids allowed start × IsNotPutAmong start news allowed room cause))

-- the elements are few enough for a template, and no two have one id
abbrev pub AreForTemplate : List Element → Type 0
AreForTemplate news = (length news ≤ 16) × HaveOwnIds news

-- the cause for which no template is made: too many elements, then two of one id, then what keeps the calls from making its header
abbrev pub KeepsFromTemplate : List ℕ → (ℕ → Option ℕ) → List Element → Option ExtensionsForm → ℕ → NotRouted → Type 0
KeepsFromTemplate old ids news allowed room ManyElements = 16 < length news
KeepsFromTemplate old ids news allowed room RepeatedId = (length news ≤ 16) × (HaveOwnIds news → ⊥)
KeepsFromTemplate old ids news allowed room LongId = AreForTemplate news × KeepsFromRouting old no_fields ids news allowed room LongId
KeepsFromTemplate old ids news allowed room (NotPut cause) = AreForTemplate news × KeepsFromRouting old no_fields ids news allowed room (NotPut cause)
