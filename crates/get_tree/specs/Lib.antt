-- the ways of frames of one tree
pub mod Stolen
