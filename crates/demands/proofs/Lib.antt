-- The lemmas of the crate, each file after those that it rests on.
pub mod Link
pub mod Listing
pub mod Exists
pub mod Beginnings
pub mod Readings
pub mod Runs
pub mod Passing
