pub mod Entries
pub mod Calls
pub mod Ledgers
pub mod States
pub mod Stacks
pub mod ShelfKept
pub mod Shelves
pub mod ShelvesKept
