-- The definitions that this crate's contracts cite. Assumes nothing.
pub mod Rewritable
pub mod Holds
pub mod Laws
