-- the patterns
pub mod Patterns
