pub mod Context
pub use Rattle.clk_record.specs.Demotions
pub mod Lifts
pub mod Shows
pub mod Stamping
