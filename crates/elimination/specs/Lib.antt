pub mod Choice
pub mod State
