-- The definitions that this crate's contracts cite. Assumes nothing.
pub mod Effect
pub mod Judge
pub mod Steps
pub mod Ready
pub mod Working
pub mod Laws
