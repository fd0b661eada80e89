-- The definitions that this crate's contracts cite. Assumes nothing.
pub mod Rewritten
pub mod Says
pub mod Laws
