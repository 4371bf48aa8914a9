-- The lemmas of the crate, each file after those that it rests on.
pub mod Steps
pub mod Unique
pub mod Printed
