-- the ways of a tree that was reserved
pub mod Reserved
