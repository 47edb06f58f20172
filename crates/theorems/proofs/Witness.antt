-- The witness read back from its bytes.
pub mod ReadBack
pub mod Tables
pub mod Falsifies
