pub mod Dead
pub mod Names
pub mod Sizes
pub mod Held
pub mod Small
pub mod Arguments
pub mod Inner
