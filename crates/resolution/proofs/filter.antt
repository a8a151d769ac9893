pub mod Covers
pub mod Laws
