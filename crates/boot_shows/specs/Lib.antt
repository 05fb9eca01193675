-- what is held of a pattern
pub mod Blocks
