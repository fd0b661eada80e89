-- The laws that this crate's proofs cite. Assumes nothing.
pub mod Taking
pub mod Over
pub mod Selecting
pub mod Laws
pub mod Rising
