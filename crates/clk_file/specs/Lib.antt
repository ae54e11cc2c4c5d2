pub mod Document
pub mod Words
pub mod Keys
pub mod Shape
pub mod Described
pub mod Acceptance
pub mod Parts
pub mod Laws
