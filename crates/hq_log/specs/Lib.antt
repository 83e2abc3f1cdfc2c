pub mod Legal
pub mod Marks
pub mod Places
pub mod Pools
