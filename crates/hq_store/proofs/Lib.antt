mod Examples
pub mod Joined
pub mod Plans
pub mod Runs
mod Steps
