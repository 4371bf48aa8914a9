-- The lemmas of the crate, each file after those that it rests on.
pub mod Digits
pub mod Written
