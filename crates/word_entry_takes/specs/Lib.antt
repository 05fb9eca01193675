-- the test of a steal, and of a reserve or steal
pub mod Yield
