-- laws that the loops go by; the definitions are in `rules_calls`
pub mod Loops
