pub mod Demoting
pub mod Turning
pub mod Seeing
