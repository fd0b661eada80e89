-- The definitions that this crate's contracts cite. Assumes nothing.
pub mod Reader
