-- The laws that this crate's proofs cite. Assumes nothing.
pub mod Lines
pub mod Room
pub mod Whole
