pub mod Ends
pub mod Waiting
