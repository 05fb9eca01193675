-- the numbers with their names
pub mod Names
