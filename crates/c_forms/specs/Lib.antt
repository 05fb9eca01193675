-- arguments as C hands them in, and statistics as C gets them
pub mod Args
pub mod Summary
