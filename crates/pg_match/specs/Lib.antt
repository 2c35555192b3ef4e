pub mod View
pub mod Answers
pub mod Walks
pub mod Sizes
