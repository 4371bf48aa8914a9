-- The lemmas of the crate, each file after those that it rests on.
pub mod Value
pub mod Scan
pub mod Places
