pub mod Automatic
pub mod Groups
pub mod Made
pub mod Records
pub mod Sizes
pub mod WellFormed
pub mod Written
