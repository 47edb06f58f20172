pub mod Lays
pub mod Nodes
pub mod Ops
pub mod Shape
pub mod Stages
pub mod Wanted
