-- The definitions that this crate's contracts cite. Assumes nothing.
pub mod Replay
pub mod Sets
pub mod Reading
