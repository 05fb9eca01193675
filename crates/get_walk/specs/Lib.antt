-- a walk as far as the next tree that is tried at once
pub mod Walked
