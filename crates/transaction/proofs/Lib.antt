-- The laws that this crate's proofs cite. Assumes nothing.
pub mod Runs
pub mod Outputs
pub mod Orders
pub mod Making
pub mod Partition
