pub mod Operands
pub mod Marking
pub mod Walking
pub mod Trimming
pub mod Renumbering
pub mod Asking
