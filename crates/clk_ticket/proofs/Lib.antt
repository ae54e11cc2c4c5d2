pub mod Totals
pub mod Blocks
pub mod TicketSteps
pub mod Once
pub mod Sent
