-- the ways of the frames of a put
pub mod PutTo
