-- The definitions that this crate's contracts cite. Assumes nothing.
pub mod Selection
pub mod Says
pub mod Laws
