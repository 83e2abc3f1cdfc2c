pub mod Acting
pub mod Lawful
