-- Which tokens are taken: exactly those that a text of the subset can go on with. So each answer of the reader stands where it should.
pub mod Runs
pub mod Spelling
pub mod Lexed
pub mod Kept
pub mod Finished
pub mod Written
pub mod GoesOn
pub mod Depth
pub mod Told
pub mod Answered
pub mod Exactly
