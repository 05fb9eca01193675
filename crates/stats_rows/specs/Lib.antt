-- the eight rows; the definitions are in `rules_calls`
pub mod Rows
