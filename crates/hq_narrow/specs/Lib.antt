pub mod Narrow
pub mod Widened
