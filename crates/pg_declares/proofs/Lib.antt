pub mod Answered
pub mod Fits
pub mod Heights
pub mod Named
pub mod Refusals
pub mod Small
