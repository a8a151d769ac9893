pub mod Laws
pub mod Lists
pub mod Ordered
pub mod Packages
