-- The public operations: what each answers and what every lent buffer holds afterwards, for every input (01, 'The job',
-- 'Refusal numbers' and 'Promises').
pub mod Answers
pub mod Buffers
pub mod Readings
pub mod Host
pub mod Promises
