-- the ways of the lower asked once
pub mod LowerAsked
