pub mod Drafts
pub mod Sizes
pub mod Statements
