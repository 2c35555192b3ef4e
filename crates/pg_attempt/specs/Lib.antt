pub mod Attempts
pub mod Lines
pub mod Outcomes
