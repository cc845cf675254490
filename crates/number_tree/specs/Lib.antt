pub mod Layouts
pub mod ProofsForLayouts
pub mod Maps
