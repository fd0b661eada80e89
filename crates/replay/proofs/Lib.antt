-- The laws that this crate's proofs cite. Assumes nothing.
pub mod Maps
pub mod Entries
pub mod Light
pub mod Reading
pub mod Turns
pub mod Appended
