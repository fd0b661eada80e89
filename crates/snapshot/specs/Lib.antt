-- The definitions that this crate's contracts cite. Assumes nothing.
pub mod Entries
pub mod Tables
pub mod Views
pub mod Found
pub mod Passing
