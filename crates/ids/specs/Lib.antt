-- The definitions that this crate's contracts cite. Assumes nothing.
pub mod Ids
pub mod Limits
pub mod Names
pub mod Refusals
pub mod Verdicts
pub mod Results
pub mod Answers
