-- The definitions that this crate's contracts cite. Assumes nothing.
pub mod Sets
pub mod Calls
pub mod Plain
pub mod Run
pub mod Shows
pub mod Claim
pub mod Examples
pub mod Wrong
pub mod Story
pub mod Either
pub mod ShortWrite
