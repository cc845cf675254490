pub mod Victims
