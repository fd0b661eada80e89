-- The laws that this crate's proofs cite. Assumes nothing.
pub mod Encoding
pub mod Sizes
pub mod Records
pub mod Bytes
pub mod Files
pub mod InMemory
pub mod Dedup
pub mod Settling
pub mod Buckets
pub mod Passes
pub mod Masking
pub mod Says
pub mod Together
