pub mod Words
pub mod Makes
pub mod Parts
