pub mod Raising
pub mod Showing
pub mod ContextKept
pub mod Spending
