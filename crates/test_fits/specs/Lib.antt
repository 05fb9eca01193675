-- what the functions behind the exported calls ask of their callers
pub mod Fits
pub mod Room
