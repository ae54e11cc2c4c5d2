pub mod Lines
pub mod Drawn
pub mod Firsts
pub mod Rising
pub mod Walks
pub mod Sent
