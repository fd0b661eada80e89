-- The definitions that this crate's contracts cite. Assumes nothing.
pub mod Rows
pub mod Vacuums
pub mod Manifests
pub mod Pins
pub mod Selections
pub mod LogBook
