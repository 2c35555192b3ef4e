pub mod Answering
pub mod Drafting
pub mod Counted
pub mod Ending
