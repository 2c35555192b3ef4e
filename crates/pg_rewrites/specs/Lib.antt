pub mod Applying
pub mod Depth
pub mod Measuring
pub mod Rewriting
pub mod Searching
pub mod Staging
pub mod Taking
pub mod View
