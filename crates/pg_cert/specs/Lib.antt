pub mod Certificates
pub mod Open
pub mod Spelling
pub mod View
