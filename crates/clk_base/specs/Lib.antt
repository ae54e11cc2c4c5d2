pub mod Causes
pub mod Text
pub mod Blocks
pub mod First
pub mod Laws
pub mod Walk
pub mod Chains
