-- The lemmas of the crate, each file after those that it rests on.
pub mod Arith
pub mod Tests
pub mod Call
pub mod Accepted
pub mod Taken
pub mod Unique
