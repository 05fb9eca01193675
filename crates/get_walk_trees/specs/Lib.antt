-- the start rounded down
pub mod Rounded
