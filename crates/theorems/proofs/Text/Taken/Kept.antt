-- What a state of the reader says of the tokens that led to it: they write what is read so far, so many brackets are open, and its names
-- come from them.
pub mod Invariant
pub mod Commands
pub mod Sound
pub mod Levels
pub mod Names
