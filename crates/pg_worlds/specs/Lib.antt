pub mod Course
pub mod Fault
pub mod Flags
pub mod Inventory
pub mod Moves
pub mod View
pub mod Worlds
