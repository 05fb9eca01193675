-- the top up in the terms of the code
pub mod TopUp
