-- The definitions that this crate's contracts cite. Assumes nothing.
pub mod Commit
pub mod Lent
pub mod Laws
