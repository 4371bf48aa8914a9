-- The lemmas of the crate, each file after those that it rests on.
pub mod Refused
pub mod Lines
pub mod Hearing
