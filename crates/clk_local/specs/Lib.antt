pub mod Context
pub mod Raising
pub mod Shows
