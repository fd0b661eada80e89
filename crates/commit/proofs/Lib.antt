-- The laws that this crate's proofs cite. Assumes nothing.
pub mod Stepwise
pub mod Sounds
pub mod Older
pub mod Calls
pub mod Lent
pub mod Pieces
pub mod AsLines
