-- another local pays, and the last routes of a get, by the answers of their steps
pub mod Paid
