pub mod Moves
pub mod Sets
pub mod Levels
pub mod Order
