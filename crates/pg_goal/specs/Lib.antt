pub mod View
pub mod Answers
pub mod Conditions
pub mod Places
pub mod Sizes
pub mod Measured
