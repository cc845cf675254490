pub mod Cells
pub mod Marks
pub mod Entries
pub mod OneRecord
pub mod ProofsForMemory
pub mod ProofsForOneRecord
