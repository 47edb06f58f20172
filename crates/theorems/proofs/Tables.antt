-- Tables of nodes: each node's value is its op at its operands' values; function-free tables that are well formed; a table read back
-- from its bytes.
pub mod Fixed
pub mod Free
pub mod Back
