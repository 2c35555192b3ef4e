pub mod Lists
pub mod Steps
pub mod Seen
pub mod Digits
pub mod Named
pub mod Told
pub mod Distinct
