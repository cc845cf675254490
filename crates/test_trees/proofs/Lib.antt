pub mod TensLemmas
pub mod NodeLemmas
pub mod RowLemmas
