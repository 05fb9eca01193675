-- the standing rules where the lengths are exact, and where they are not
pub mod Lengths
