-- chains of the archive's calls, to be read
pub mod Chains
-- what a start in them is lent
pub mod Lent
-- what a drain of the archive leaves
pub mod Drains
