pub mod Ends
pub mod Counts
pub mod Tests
pub mod Words
