pub mod Each
pub mod Ends
pub mod InUse
pub mod Parts
pub mod Ran
pub mod Shares
pub mod Transactions
pub mod Writes
