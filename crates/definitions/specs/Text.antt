-- Jobs in solver text (02, E1; docs/TEXT.md).
pub mod Ascii
pub mod Tokens
pub mod Grammar
pub mod Heads
pub mod Reader
pub mod Meaning
pub mod Nodes
