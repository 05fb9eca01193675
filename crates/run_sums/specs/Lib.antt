-- the sum of words
pub mod Fnv
