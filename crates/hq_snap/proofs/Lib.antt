pub mod Cached
pub mod Elements
pub mod Files
pub mod Placed
pub mod Since
