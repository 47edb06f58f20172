-- What the paper works by hand, proved of the definitions by computation (01, 'Formulas worked by hand').
pub mod Problems
pub mod Rows
pub mod Tables
pub mod Facts
pub mod Roots
pub mod Texts
pub mod Solved
