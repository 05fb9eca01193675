-- laws that the proof goes by; the definitions are in `rules_calls`
pub mod Holder
