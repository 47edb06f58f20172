pub mod NodeSets
pub mod FirstDigit
pub mod Moved
pub mod Counts
pub mod Alike
pub mod Placing
