-- a law of a store past the end, which `trees` and `local` go by
pub mod Past
