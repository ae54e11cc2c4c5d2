pub mod Booting
pub mod Preparing
pub mod Finishing
pub mod Workers
pub mod Parts
pub mod Ending
pub mod PartsKept
