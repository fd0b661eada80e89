-- The laws that this crate's proofs cite. Assumes nothing.
pub mod Texts
pub mod Front
