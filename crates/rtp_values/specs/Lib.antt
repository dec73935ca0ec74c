-- What contracts rest on, from the bytes up.
pub mod Kind
pub mod KnownKind
pub mod HeaderValues
pub mod Values
pub mod KindSet
pub mod Spelling
pub mod WithLayers
-- A send time over time.
pub mod SendTime
-- The data of elements as their standards have them.
pub mod StandardBits
pub mod StandardNumbers
pub mod StandardOrientation
pub mod StandardMarking
pub mod StandardTimes
pub mod StandardTransport
pub mod StandardDescriptor
pub mod StandardTiming
pub mod StandardToken
pub mod StandardColor
pub mod StandardLevels
-- What the inside promises itself.
pub mod KindTable
pub mod KindBytes
