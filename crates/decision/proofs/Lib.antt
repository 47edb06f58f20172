pub mod Beginning
pub mod Deciding
pub mod RowLaws
pub mod WitnessLaws
pub mod SearchLaws
