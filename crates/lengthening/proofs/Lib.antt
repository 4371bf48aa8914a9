-- The lemmas of the crate, each file after those that it rests on.
pub mod Rows
pub mod Numbers
pub mod Stepping
pub mod Longer
pub mod Columns
pub mod Lengthened
