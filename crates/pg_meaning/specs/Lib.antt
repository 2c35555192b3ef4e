pub mod Scope
pub mod Faults
pub mod Meaning
pub mod Live
pub mod Spelling
pub mod Laws
