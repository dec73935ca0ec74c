mod ElementAtLemmas
mod WordLemmas
mod NoZeroLemmas
mod StartLemmas
mod NewFormLemmas
mod ChangeFormLemmas
pub mod ByCallsLemmas
mod RoutingLemmas
mod SameElementsLemmas
mod NumberLemmas
mod NotPutLemmas
mod SetDataLemmas
mod SlotLemmas
pub mod KnownGroupLemmas
pub mod LengthLemmas
mod BodyLemmas
mod OnlyLemmas
mod SlotsFound
pub mod TemplateLemmas
pub mod RetransmittedLemmas
mod OneHeaderLemmas
mod RepeatedLemmas
mod WideLemmas
mod RoomLemmas
mod NoneKeptLemmas
mod WalkLemmas
mod WalkedLemmas
mod PreparingLemmas
mod FormsLemmas
mod FrontLemmas
mod ByWalkLemmas
mod CopyLemmas
