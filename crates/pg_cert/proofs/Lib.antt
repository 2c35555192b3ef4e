mod Example
pub mod Stack
