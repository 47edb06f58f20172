-- The meaning over any domain with a test of equality, and that validity is the same over all of them.
pub mod Meaning
pub mod Every
