pub mod Again
pub mod Answering
pub mod Calls
pub mod Closing
mod Examples
pub mod FreshNames
pub mod Joins
pub mod Lists
pub mod Numbers
pub mod Readable
pub mod StatementTruth
pub mod Texts
pub mod Views
pub mod Weights
pub mod Wholes
