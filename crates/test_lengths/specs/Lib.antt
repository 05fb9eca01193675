-- what exact lengths are
pub mod Exact
