-- The laws that this crate's proofs cite. Assumes nothing.
pub mod Says
pub mod Laws
