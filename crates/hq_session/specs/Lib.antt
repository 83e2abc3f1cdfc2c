pub mod Keeps
pub mod Waits
