-- the board, and that a start accepts it
pub mod Board
