pub mod Checking
pub mod VisitsKept
pub mod Calling
pub mod Making
pub mod Shown
