-- The definitions that this crate's contracts cite. Assumes nothing.
pub mod State
pub mod Sets
pub mod Sound
pub mod Widths
