-- what the test of the locals gives to that of their trees
pub mod Inside
