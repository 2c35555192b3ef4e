pub mod Bound
pub mod Found
pub mod Laws
pub mod Own
pub mod View
