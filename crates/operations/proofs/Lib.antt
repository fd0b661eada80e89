-- The laws that this crate's proofs cite. Assumes nothing.
pub mod Entries
pub mod Edits
pub mod Keeps
pub mod Local
pub mod Turns
