pub mod Closed
pub mod Kept
pub mod Passes
pub mod Views
