-- laws of a part of the words, as a loop over it reads them
pub mod Part
