-- What is proved of what the C functions tell.
pub mod Replies
