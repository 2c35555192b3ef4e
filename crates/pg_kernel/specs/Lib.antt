pub mod Admission
pub mod Checks
pub mod Names
pub mod Premises
pub mod View
