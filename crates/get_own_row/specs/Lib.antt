-- a part of a take from the own local, and its ways
pub mod Own
