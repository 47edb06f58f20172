-- Every state that is reached can be read out.
pub mod Constants
pub mod Finishing
pub mod Able
