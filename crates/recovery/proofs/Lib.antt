-- The laws that this crate's proofs cite. Assumes nothing.
pub mod Reading
pub mod Framed
pub mod Short
pub mod Effects
pub mod Replays
pub mod Besides
pub mod Owned
pub mod Appending
pub mod SoundState
pub mod SoundReading
pub mod SoundSets
pub mod Sound
pub mod AgainBuilt
pub mod Again
pub mod Locks
