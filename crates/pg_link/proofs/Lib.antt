pub mod Taking
pub mod Emptied
