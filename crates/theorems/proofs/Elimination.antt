-- Elimination: what one step does, that the table it lays is well formed and how long it is, and that images have
-- the values of their nodes, from an assignment to an interpretation and back.
pub mod Steps
pub mod Repeats
pub mod Extends
pub mod Grows
pub mod Lays
pub mod WellStepped
pub mod WellLaid
pub mod Chosen
pub mod Variables
pub mod Valued
pub mod Images
pub mod OfAssignment
pub mod OfInterpretation
pub mod Counts
pub mod Bound
