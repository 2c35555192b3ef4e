pub mod Asked
pub mod Running
pub mod State
pub mod Written
