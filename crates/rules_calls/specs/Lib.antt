-- document 01 from the routes of get to the calls: read these in this order
pub mod State
pub mod FromLocals
pub mod Walking
pub mod Search
pub mod Get
pub mod Standing
pub mod Calls
pub mod Statistics
pub mod Promises
pub mod Examples
