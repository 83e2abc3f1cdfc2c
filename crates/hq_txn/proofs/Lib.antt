pub mod Counting
pub mod Growing
pub mod InHand
pub mod Joining
pub mod Listing
pub mod Sharing
pub mod Standing
pub mod Tasking
