pub mod Finding
pub mod Stages
pub mod NodeLaws
pub mod Putting
pub mod Laying
pub mod Scans
