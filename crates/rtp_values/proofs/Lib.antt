pub mod KindLemmas
pub mod FieldLemmas
pub mod KindLaws
pub mod ValueLemmas
pub mod EmptyDataLemmas
pub mod DataLengthLemmas
pub mod KindSetLemmas
mod WithLayersLemmas
mod DelayLemmas
mod SendTimeLemmas
mod SendTimeFacts
mod MemoryFacts
mod ShownFacts
