-- the text of a get's answer
pub mod GetText
-- the text of each answer but a get's
pub mod OtherText
