-- the sums that the loops make
pub mod Wholes
