pub mod Accepted
pub mod Admitted
pub mod AxiomTheorems
pub mod Axioms
pub mod Given
pub mod Naming
pub mod Unfolds
