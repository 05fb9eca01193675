-- chains of the archive's calls are chains of the promises
pub mod Archive
