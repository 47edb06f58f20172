-- Components, ranks, and the small model: the ranges are adequate.
pub mod Chains
pub mod Components
pub mod Renaming
pub mod SmallModel
pub mod Adequate
