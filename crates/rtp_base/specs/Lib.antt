-- What public contracts cite.
pub mod Id
pub mod Direction
pub mod Window
pub mod Ring
pub mod Frequency
pub mod MediaTime
-- What the crates that read and write bytes cite.
pub mod Flag
pub mod Overwriting
-- What private contracts cite.
pub mod Bitmap
-- For the prover alone.
pub mod OrderLaws
