pub mod Sorting
pub mod CountingBlocks
pub mod CountingWords
pub mod CountingLaws
pub mod Few
pub mod Naming
