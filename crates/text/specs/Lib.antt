-- The definitions of the crate, each file after those that it rests on.
pub mod Wrote
pub mod Lines
