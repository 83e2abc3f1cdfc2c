pub mod Home
pub mod Ledgers
