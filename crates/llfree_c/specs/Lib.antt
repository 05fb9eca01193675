-- the promises, and that each fixes the answer and every word
pub mod Promises
pub mod Complete
