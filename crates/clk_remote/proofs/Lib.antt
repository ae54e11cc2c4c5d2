pub mod Coupling
pub mod Reaching
