pub mod Epoch
pub mod Calls
pub mod LatchRule
pub mod LatchSeats
pub mod Turns
pub mod CellRule
pub mod Laws
