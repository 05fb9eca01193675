-- the rating of a policy's answer
pub mod Rating
