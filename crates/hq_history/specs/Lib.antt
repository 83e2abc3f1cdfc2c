pub mod Deposits
pub mod History
