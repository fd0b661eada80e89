-- The definitions that this crate's contracts cite. Assumes nothing.
pub mod Class
pub mod Name
pub mod Decimal
pub mod Laws
