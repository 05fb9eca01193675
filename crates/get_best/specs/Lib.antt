-- the list of the best in words, and a tree inserted into it
pub mod List
pub mod Insertion
