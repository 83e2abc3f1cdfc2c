pub mod Marked
pub mod Narrowed
pub mod Nodes
pub mod Parts
pub mod Taken
