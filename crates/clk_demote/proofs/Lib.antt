pub mod Zipping
pub mod Shifting
pub mod Copying
pub mod Lifting
pub mod ContextKept
pub mod Demoting
