-- The proofs of this crate. Assumes nothing.
pub mod Searched
pub mod Lines
pub mod Filtered
pub mod Whole
