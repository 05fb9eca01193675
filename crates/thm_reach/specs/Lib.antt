-- what a get of one frame reaches, and what is out of reach
pub mod Reach
pub mod OutOfReach
-- where a route ends that a step or the own local decides
pub mod Ends
pub mod Own
