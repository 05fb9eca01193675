-- what holds of any chain of calls after an accepted start: the statements; the theorems are in proofs/, the last in Sequence
pub mod Demand
-- what a drain leaves that is Done
pub mod DrainDone
pub mod Drains
