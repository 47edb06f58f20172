pub mod Rows
pub mod Searched
