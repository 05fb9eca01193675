-- a reservation that moves, by the answers of its steps
pub mod Demoted
