-- The laws that this crate's proofs cite. Assumes nothing.
pub mod Arranged
pub mod Laws
pub mod Says
