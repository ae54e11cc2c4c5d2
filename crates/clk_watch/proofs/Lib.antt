pub mod Smallness
pub mod Drawing
pub mod Trial
pub mod Growing
pub mod Leaving
pub mod Staying
pub mod Calling
