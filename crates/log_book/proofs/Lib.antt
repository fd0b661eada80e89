-- The laws that this crate's proofs cite. Assumes nothing.
pub mod Rows
pub mod Vacuums
pub mod Selections
pub mod Manifests
pub mod Pins
pub mod Book
