pub mod Falls
pub mod Counters
pub mod Sizes
pub mod Calls
pub mod Near
pub mod Shifting
