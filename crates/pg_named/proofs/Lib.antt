pub mod Clashes
pub mod Differ
pub mod Places
pub mod Rising
pub mod Room
