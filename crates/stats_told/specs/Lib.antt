-- statistics by value, and against the definition
pub mod Stats
