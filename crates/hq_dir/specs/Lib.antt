pub mod Counts
pub mod LaneNames
