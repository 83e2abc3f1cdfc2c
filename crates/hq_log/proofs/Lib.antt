pub mod Examples
pub mod Logs
pub mod Nexts
