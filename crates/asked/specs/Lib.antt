pub mod Reached
pub mod Trimming
pub mod Asking
