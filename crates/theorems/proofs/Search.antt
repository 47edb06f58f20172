-- The places in order, and what an outcome says of them.
pub mod Places
pub mod Verdict
