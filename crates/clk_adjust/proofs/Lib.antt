pub mod Few
pub mod Drawing
pub mod Going
pub mod Climbing
