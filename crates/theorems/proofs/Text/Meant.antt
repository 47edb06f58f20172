-- The problem of a script: its nodes, its meaning, that check takes it, and that no two of its nodes are equal.
pub mod Shared
pub mod Laying
pub mod Paired
pub mod Reading
pub mod Sizes
pub mod Twins
pub mod Again
pub mod Origins
pub mod Heights
pub mod Bytes
pub mod Sorted
pub mod SortedTerms
pub mod Accepted
