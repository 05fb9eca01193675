-- a text in a buffer; numbers as text
pub mod Text
pub mod Numbers
