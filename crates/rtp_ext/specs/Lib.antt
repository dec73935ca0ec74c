-- What contracts rest on, from the bytes up.
pub mod Form
pub mod ExtensionMap
pub mod KindsById
pub mod Elements
pub mod BlockValues
pub mod Memory
pub mod LastAllocation
pub mod WrittenBlock
pub mod ElementsInARow
pub mod ElementsInPlace
pub mod NewIds
pub mod PutElement
-- What the inside promises itself.
pub mod MapSlots
pub mod EqualMaps
pub mod ElementReading
pub mod ElementWriting
pub mod ElementPlaces
pub mod IdChanges
pub mod BodySurvey
