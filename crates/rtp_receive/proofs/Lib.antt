pub mod WideningLemmas
pub mod NearestLemmas
mod ReceiverLemmas
pub mod VerdictLemmas
pub mod TrueNumberLemmas
mod ReceptionLemmas
mod ReceptionFacts
pub mod StandingLemmas
pub mod RestartingLemmas
mod EpochOrder
mod EpochLemmas
mod PlacesLemmas
pub mod ReceiversLemmas
pub mod SourceLemmas
mod SourceFacts
