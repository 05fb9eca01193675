-- laws of the argument tests, and of the tests of a get and of a put; the definitions are in `rules_calls`
pub mod Checked
pub mod Refusals
