mod Decimal
pub mod Answering
pub mod Reading
