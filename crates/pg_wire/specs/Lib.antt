pub mod Statuses
pub mod View
