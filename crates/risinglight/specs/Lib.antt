-- The definitions that this crate's contracts cite. Assumes nothing.
pub mod Maps
pub mod Numbers
pub mod Snapshot
pub mod Manifest
pub mod VersionManager
pub mod Storage
pub mod DeleteVector
pub mod Transaction
pub mod Compactor
pub mod Run
pub mod Agreement
pub mod Selections
pub mod Groupings
pub mod DeleteVectors
pub mod Differences
