pub mod Sizes
pub mod Time
pub mod TicketRule
pub mod TimeSeats
pub mod Laws
