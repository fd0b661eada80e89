-- The definitions that this crate's contracts cite. Assumes nothing.
pub mod Book
pub mod Guards
pub mod Counts
pub mod Laws
