pub mod Coupling
pub mod Shows
pub mod Laws
