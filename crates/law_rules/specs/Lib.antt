-- laws of computed tests, and of the policy table
pub mod All
pub mod Count
pub mod Kinds
pub mod Accepted
pub mod Rows
-- laws of the bitmap
pub mod Cases
pub mod Power
pub mod Sum
pub mod Block
pub mod Held
pub mod Ones
pub mod Run
pub mod Past
pub mod Tests
pub mod Field
pub mod Mark
pub mod MarkTests
pub mod First
pub mod Seek
pub mod WordSeek
pub mod LowestClear
pub mod Open
pub mod Clear
pub mod Search
pub mod Lower
pub mod Below
-- laws of words, of the tree order, of sums, of lists and of the slots of locals
pub mod Sizes
pub mod RoundTrips
pub mod SumTerms
pub mod Round
pub mod Lists
pub mod Slots
