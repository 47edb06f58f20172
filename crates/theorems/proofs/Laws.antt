-- Small laws that the other files cite: tests and orders, the ops, what grows along a table, the first of a list, scans, what is
-- stored entry by entry.
pub mod Tests
pub mod All
pub mod Ops
pub mod Grown
pub mod First
pub mod Scans
pub mod Entries
