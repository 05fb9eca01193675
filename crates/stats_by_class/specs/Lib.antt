-- sums over the first trees and locals; the definitions are in `rules_calls`
pub mod Sums
