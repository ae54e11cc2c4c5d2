pub mod Drift
pub mod Lifts
pub mod Turned
pub mod Highs
pub mod Rises
