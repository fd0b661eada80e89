-- The definitions that this crate's contracts cite. Assumes nothing.
pub mod Locks
pub mod Says
pub mod Laws
