-- The proofs of crate reader: the calls, and then what holds of every outcome.
mod Front
mod Settled
mod Encoding
mod Checking
mod Finding
mod Listing
mod Reading
pub mod Decided
pub mod Readings
pub mod Unique
pub mod Alike
pub mod Held
pub mod Few
