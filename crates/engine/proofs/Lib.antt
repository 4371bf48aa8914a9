-- The lemmas of the crate, each file after those that it rests on.
mod Times
mod Searching
