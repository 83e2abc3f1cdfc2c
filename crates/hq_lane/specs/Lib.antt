pub mod BucketFiles
pub mod Cursors
pub mod FileBlocks
pub mod Lanes
pub mod Packing
pub mod Scans
pub mod Sizes
