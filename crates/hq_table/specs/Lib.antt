pub mod Kept
pub mod Home
