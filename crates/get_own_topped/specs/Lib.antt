-- the top up of the own local
pub mod Topped
