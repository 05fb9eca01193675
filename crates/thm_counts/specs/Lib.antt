-- the bounds
pub mod Counts
-- when Memory is answered
pub mod Missed
