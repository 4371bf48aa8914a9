-- The lemmas of the crate, each file after those that it rests on.
pub mod Reduce
pub mod Quotient
pub mod Factors
