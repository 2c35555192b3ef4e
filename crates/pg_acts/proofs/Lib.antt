pub mod Does
pub mod Justified
pub mod Known
pub mod Parts
pub mod Unfolds
