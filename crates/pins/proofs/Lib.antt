-- The laws that this crate's proofs cite. Assumes nothing.
pub mod Bound
pub mod Facts
pub mod Seen
pub mod Shifts
pub mod Counting
pub mod Finding
pub mod Books
