-- The definitions that this crate's contracts cite. Assumes nothing.
pub mod LetGo
pub mod Says
pub mod Laws
