-- laws of the marks; the definitions are in `rules` and `rules_calls`
pub mod Apart
