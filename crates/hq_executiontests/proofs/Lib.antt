pub mod Nodes
pub mod Worked
