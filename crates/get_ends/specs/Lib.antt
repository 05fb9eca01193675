-- which ends of a route are the last
pub mod Ends
