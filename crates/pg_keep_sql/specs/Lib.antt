pub mod Statements
pub mod Store
