-- The definitions that this crate's contracts cite. Assumes nothing.
pub mod Groups
pub mod Says
pub mod Orders
pub mod Made
pub mod Laws
