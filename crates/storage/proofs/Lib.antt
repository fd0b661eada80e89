-- The laws that this crate's proofs cite. Assumes nothing.
pub mod Replayed
pub mod Answered
pub mod HandedOut
