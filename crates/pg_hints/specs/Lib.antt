pub mod Counts
pub mod Samples
pub mod Words
