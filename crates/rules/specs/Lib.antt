-- document 01 up to the single words and the lower: read these in this order
pub mod Base
pub mod Words
pub mod Policy
pub mod Entries
pub mod Locals
pub mod Lower
pub mod Examples
