-- what the call tells
pub mod Told
