-- The laws that this crate's proofs cite. Assumes nothing.
pub mod Verdicts
pub mod Names
pub mod Results
