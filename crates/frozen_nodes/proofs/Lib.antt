pub mod Results
pub mod MakesLemmas
pub mod MadeLemmas
pub mod MakeWordLemmas
pub mod PartsLemmas
pub mod HandLemmas
pub mod RemoveWordLemmas
