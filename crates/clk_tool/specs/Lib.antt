pub mod Answers
pub mod Commands
pub mod Ends
pub mod Make
pub mod Rate
pub mod Failures
pub mod Whole
