pub mod Lists
pub mod Nested
pub mod Reading
pub mod Answering
pub mod Binding
