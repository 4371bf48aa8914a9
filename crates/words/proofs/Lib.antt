-- The lemmas of the crate.
mod Answered
