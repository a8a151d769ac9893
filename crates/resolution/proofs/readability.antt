pub mod Added
pub mod Answers
pub mod Laws
pub mod Resolved
pub mod Rows
