pub mod Shapes
pub mod Nesting
pub mod Faults
pub mod Machine
pub mod Printing
pub mod Laws
