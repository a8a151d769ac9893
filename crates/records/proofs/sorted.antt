pub mod Growth
pub mod Index
pub mod Laws
pub mod Search
pub mod Visible
