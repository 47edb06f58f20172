-- The problem bytes, the problem asked of a root, and which are taken (01, 'Problem bytes' and 'Refusal numbers, in the order tried';
-- 02, E2).
pub mod Node
pub mod Ops
pub mod Check
pub mod Asked
