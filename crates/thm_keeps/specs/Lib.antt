-- every route of a get leaves the standing rules standing, is never stuck, and changes no bit but those of the block that it grants
pub mod Fine
pub mod Steals
pub mod Own
pub mod Reserves
pub mod Payers
pub mod Searches
pub mod Routes
-- what one call does to a state that passes the standing rules; the theorems are in Calls
pub mod Asked
pub mod Drains
pub mod Fresh
pub mod Puts
pub mod Calls
-- the standing rules as a test, as sentences, and with nothing in hand are one; the theorems are in Standing
pub mod Holders
pub mod Test
pub mod Standing
