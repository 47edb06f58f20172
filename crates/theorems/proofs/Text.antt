-- Jobs in solver text (02, E1): what the problem of a text means, and which texts are taken and where the others are refused.
pub mod Meant
pub mod Taken
pub mod Refused
pub mod Problems
pub mod Promised
pub mod Judged
pub mod Top
pub mod Called
pub mod HostTop
