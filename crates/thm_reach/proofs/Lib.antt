-- where each further route ends
pub mod Walks
pub mod Lenders
-- the theorem, what is out of reach, and the promise
pub mod Memory
pub mod OutOfReach
pub mod Promise
