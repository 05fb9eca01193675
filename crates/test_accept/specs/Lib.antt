-- laws that the proof of `accepts` goes by; the definitions are in `rules`
pub mod Accepts
