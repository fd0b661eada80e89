-- The definitions that this crate's contracts cite. Assumes nothing.
pub mod Operations
pub mod Edits
pub mod Lines
pub mod Fields
pub mod Split
pub mod Laws
