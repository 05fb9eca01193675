-- rows of zeros, what is lent of them, and a report by value
pub mod Lent
