-- one law for each step of a call: what holds of every way on, holds of the step
pub mod Steps
pub mod Ways
pub mod Walks
pub mod Payers
pub mod Tested
pub mod Checked
pub mod Answers
-- the walk: it visits every tree once, its looks are its steps, and its list is the best of what was offered
pub mod EveryTree
pub mod Looks
pub mod Best
