-- What contracts rest on: numbers over time.
pub mod Widening
pub mod Receiver
pub mod Verdicts
pub mod TrueNumbers
pub mod Restarting
pub mod EpochRun
pub mod Receivers
pub mod Sources
pub mod Reception
-- What functions inside promise each other.
pub mod StreamState
pub mod RestartingState
pub mod SourcePlaces
pub mod EachSource
pub mod ReceptionState
