pub mod Bodies
pub mod Laws
pub mod Marks
pub mod Search
