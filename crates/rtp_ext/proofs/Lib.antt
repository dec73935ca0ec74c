mod Common
-- The elements of a body, as they are read.
pub mod ElementLemmas
pub mod ElementLemmasOfBodies
pub mod FirstElementLemmas
mod PieceLemmas
pub mod PlaceLemmas
pub mod LastPlaceLemmas
-- The values that they give under a map.
pub mod ValuesLaws
mod ValueFacts
pub mod ValuesFound
pub mod LastAllocationLemmas
pub mod ApartLemmas
pub mod MemoryLemmas
-- What each id is mapped to.
mod MapLemmas
pub mod ListingLemmas
pub mod WalkLemmas
mod ReplacedLemmas
mod NextIdLemmas
mod CopiedLemmas
mod MemoryFacts
-- The known extensions of a map, and walks over them.
pub mod KindsByIdLemmas
mod TableLemmas
pub mod KnownItemsLemmas
pub mod KnownWritingLemmas
-- Elements as they are written.
mod FormLemmas
mod ShortBlockLemmas
pub mod WrittenBlockLemmas
pub mod WrittenElementsLemmas
mod WrittenValuesLemmas
mod LeftOutLemmas
pub mod RawWritingLemmas
pub mod ServingFormLemmas
-- The ids that elements get under another map.
pub mod NewIdLemmas
mod NewBytesLemmas
pub mod RenamedIdLemmas
pub mod RenamesLemmas
mod PaddedPieceLemmas
mod RenumberingLemmas
pub mod RenumberedValuesLemmas
-- An element that is set where it lies, or a body that is made anew.
mod SetValuesLemmas
mod SurveyLemmas
mod LeftLemmas
pub mod GatheredLemmas
pub mod PutLemmas
pub mod AnewLemmas
mod AroundLemmas
mod RowLemmas
mod BetweenLemmas
mod MovedElementLemmas
mod RowFormLemmas
pub mod NarrowLemmas
mod RowLengthLemmas
mod ChangedRowsLemmas
pub mod RewrittenLemmas
