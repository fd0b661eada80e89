-- The definitions that this crate's contracts cite. Assumes nothing.
pub mod Made
pub mod Create
pub mod Drop
pub mod Compact
pub mod Says
pub mod Laws
