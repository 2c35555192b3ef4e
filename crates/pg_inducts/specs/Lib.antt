pub mod Carrying
pub mod Framed
pub mod Steps
