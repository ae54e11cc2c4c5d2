pub mod Lists
pub mod ByKind
pub mod Threading
pub mod Within
