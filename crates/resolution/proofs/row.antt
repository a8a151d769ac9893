pub mod Bits
pub mod Counts
pub mod Laws
