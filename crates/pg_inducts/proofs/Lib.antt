pub mod Does
pub mod Doubled
pub mod Held
pub mod Named
