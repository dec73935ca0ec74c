-- What contracts rest on, from the bytes up.
pub mod Leb
pub mod Allocation
pub mod AllocationWritten
-- What the inside promises itself.
pub mod LebReading
pub mod Leaving
pub mod AllocationEqual
pub mod AllocationReading
pub mod AllocationPutting
pub mod Measuring
pub mod UpTo
