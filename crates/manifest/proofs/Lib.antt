-- The laws that this crate's proofs cite. Assumes nothing.
pub mod Fields
pub mod Texts
pub mod Split
pub mod Lines
