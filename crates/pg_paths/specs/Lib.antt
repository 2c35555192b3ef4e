pub mod Routes
pub mod Plain
pub mod View
