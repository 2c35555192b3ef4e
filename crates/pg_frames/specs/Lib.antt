pub mod Held
pub mod View
