pub mod Sets
pub mod Table
pub mod Spans
