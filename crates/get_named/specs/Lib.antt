-- the routes of a named frame, by their answers
pub mod AtFrame
