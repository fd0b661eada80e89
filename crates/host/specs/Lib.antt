-- The definitions that this crate's contracts cite. Assumes nothing.
pub mod Numbers
pub mod Arguments
pub mod Calls
