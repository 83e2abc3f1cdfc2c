pub mod Entries
pub mod Examples
pub mod Files
pub mod Places
