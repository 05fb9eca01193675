-- what holds of any chain of calls after an accepted start: the theorems, the last in Sequence
pub mod Blocks
pub mod Lent
pub mod Refused
pub mod Steps
pub mod Sequence
