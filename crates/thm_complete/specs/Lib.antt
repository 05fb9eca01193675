-- each promise fixes the answer and every word
pub mod Complete
