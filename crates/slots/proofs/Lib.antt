-- The lemmas of the crate, each file after those that it rests on.
pub mod Slot
pub mod Swept
pub mod Seed
