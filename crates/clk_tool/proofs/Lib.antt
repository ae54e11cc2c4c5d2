pub mod Bringing
pub mod Accepting
pub mod Making
pub mod Numbers
pub mod ReadingWhole
