-- the standing rules with frames or reservations in hand
pub mod Hand
-- the moves between states with something in hand
pub mod Here
pub mod Moves
pub mod Entries
pub mod Locals
