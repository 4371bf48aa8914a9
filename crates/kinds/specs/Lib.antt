-- The definitions of the crate, each file after those that it rests on.
pub mod Holding
pub mod Did
