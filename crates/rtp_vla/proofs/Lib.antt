mod Common
pub mod LeavingLemmas
pub mod LebLemmas
pub mod LebSpellingLemmas
pub mod CountBitsLemmas
pub mod CountsLemmas
pub mod AllocationReadingLemmas
pub mod AllocationDealing
pub mod AllocationParts
pub mod AllocationLayout
pub mod AllocationMeaning
pub mod MeaningOrNone
pub mod AllocationWritingLemmas
pub mod AllocationTrimming
pub mod AllocationSpelling
pub mod AllocationWriting
pub mod UpToLemmas
pub mod MeasuringLemmas
pub mod PuttingLemmas
mod SettingLemmas
