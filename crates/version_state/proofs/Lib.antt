-- The laws that this crate's proofs cite. Assumes nothing.
pub mod Facts
pub mod Within
pub mod Stands
