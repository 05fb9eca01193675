-- laws of a part's share; the definitions are in `rules_calls`
pub mod Share
