-- The laws that this crate's proofs cite. Assumes nothing.
pub mod Bytes
pub mod Decimal
pub mod Round
pub mod Names
