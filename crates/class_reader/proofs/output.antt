pub mod Entries
pub mod Items
pub mod Names
pub mod Parts
pub mod Putting
pub mod Tables
