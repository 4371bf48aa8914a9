-- The lemmas of the crate, each file after those that it rests on.
pub mod Scan
pub mod Values
pub mod Places
pub mod Keep
pub mod Start
