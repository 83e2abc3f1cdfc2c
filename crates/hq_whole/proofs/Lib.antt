pub mod Building
pub mod Conjoining
pub mod Nodes
pub mod Numbers
pub mod Plans
pub mod Reordering
pub mod Results
pub mod Stepping
