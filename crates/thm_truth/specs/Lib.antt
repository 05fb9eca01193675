-- sums over classes, trees and locals
pub mod Sums
-- what the figures are
pub mod Truth
-- what a report says
pub mod Truthful
