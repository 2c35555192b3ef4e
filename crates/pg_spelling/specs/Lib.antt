pub mod Fresh
pub mod Named
pub mod Written
pub mod Placed
pub mod Laws
pub mod Occurring
pub mod Back
pub mod TextBack
