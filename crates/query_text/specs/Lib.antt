pub mod Asks
pub mod Dot
pub mod Grammar
pub mod Laws
pub mod Machine
pub mod Modes
pub mod Reading
pub mod Survey
