-- laws that the loops go by; the definitions are in `rules`
pub mod Loops
