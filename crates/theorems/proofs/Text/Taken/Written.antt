-- The tokens that write a right script are all taken.
pub mod Resolve
pub mod Terms
pub mod Scripts
