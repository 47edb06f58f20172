pub mod AssertLaws
pub mod CheckLaws
pub mod CommandSteps
pub mod EndLaws
pub mod FirstLaws
pub mod ShelfLaws
