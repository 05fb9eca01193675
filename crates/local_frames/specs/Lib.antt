-- a take from a local that has enough
pub mod Paid
