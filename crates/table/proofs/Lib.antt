-- The proofs of this crate. Assumes nothing.
pub mod Deletes
pub mod Shown
pub mod Accepted
pub mod Dropping
pub mod Creating
pub mod Compacting
pub mod Laws
pub mod Lines
pub mod Judged
