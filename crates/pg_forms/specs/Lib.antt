pub mod Binders
pub mod Equations
pub mod Kinds
pub mod Links
pub mod Taken
pub mod View
