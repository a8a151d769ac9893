pub mod Asked
pub mod Laws
pub mod Shared
pub mod Split
