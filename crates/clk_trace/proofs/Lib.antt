pub mod Taking
pub mod Lining
pub mod Texts
pub mod WatchTexts
pub mod WholeText
pub mod Passing
pub mod Gaining
pub mod Keeping
