-- What contracts rest on.
pub mod MapLine
pub mod Input
pub mod Listing
pub mod Output
-- What the inside promises itself.
pub mod Front
pub mod HeaderBytes
pub mod Stopping
pub mod Digits
