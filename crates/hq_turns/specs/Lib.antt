pub mod Asked
pub mod Counts
pub mod Ends
pub mod Examples
pub mod Following
pub mod Hand
pub mod Held
pub mod Now
