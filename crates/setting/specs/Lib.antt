-- The definitions of the crate, each file after those that it rests on.
pub mod Call
pub mod Sized
pub mod Accepted
