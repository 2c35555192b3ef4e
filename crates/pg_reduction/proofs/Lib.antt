pub mod Does
pub mod Large
pub mod Parts
pub mod Passed
