-- the bounds hold of what the promise of `get` allows
pub mod Promised
