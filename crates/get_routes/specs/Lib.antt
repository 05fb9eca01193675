-- where a reserving search starts
pub mod Start
-- whether it reserves or steals
pub mod Turn
-- the routes of a get with no name, by their answers
pub mod Turns
