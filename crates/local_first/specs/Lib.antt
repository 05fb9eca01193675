-- laws of the loop over the locals of a class
pub mod Round
