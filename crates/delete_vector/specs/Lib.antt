-- The definitions that this crate's contracts cite. Assumes nothing.
pub mod Encoding
pub mod Sizes
pub mod Records
pub mod Memory
pub mod Digits
pub mod Mask
pub mod Answers
pub mod Says
pub mod Laws
