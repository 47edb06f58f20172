pub mod Budgets
pub mod Counting
pub mod Passing
pub mod Declared
pub mod Pieces
