pub mod Table
pub mod Ends
pub mod Trace
pub mod Names
pub mod Taken
pub mod Sound
pub mod Reader
pub mod Unique
pub mod Printing
mod Examples
