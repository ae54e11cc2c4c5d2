pub use Rattle.clk_record.specs.WarpReadings
pub use Rattle.clk_record.specs.BroughtUp
pub mod Tickets
pub mod Outcomes
