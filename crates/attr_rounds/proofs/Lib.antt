pub mod RoundLemmas
pub mod Commits
pub mod ColumnLemmas
pub mod ImageLemmas
