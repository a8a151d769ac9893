-- The definitions that the contracts cite.
pub mod Host
pub mod Reader
pub mod Reply
