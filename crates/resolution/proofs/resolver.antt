pub mod Ends
pub mod Records
pub mod Turns
pub mod Runs
