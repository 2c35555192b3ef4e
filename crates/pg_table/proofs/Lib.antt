pub mod Acts
pub mod Small
