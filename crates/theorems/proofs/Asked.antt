-- The problem asked of a named root (02, E2): what it is, that it keeps the root's truth, and that nodes appended change nothing.
pub mod Reach
pub mod Numbers
pub mod Trimmed
pub mod Formed
pub mod Fresh
pub mod Whole
pub mod Asks
pub mod SameBytes
pub mod Twice
pub mod Marks
pub mod Fewer
