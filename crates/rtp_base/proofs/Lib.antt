mod Common
pub mod BitmapLemmas
mod DirectionLemmas
mod FrequencyLemmas
pub mod IdLemmas
mod IdTextLemmas
mod MaskLemmas
mod MediaTimeLemmas
pub mod OverwritingLemmas
pub mod RingLemmas
mod StandardFacts
pub mod WindowLemmas
