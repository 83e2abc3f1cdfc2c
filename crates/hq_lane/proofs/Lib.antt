pub mod Clean
mod Examples
pub mod FileBlocks
pub mod Fronts
pub mod Growing
mod Ids
pub mod Merging
pub mod Parting
pub mod Passing
pub mod Scanning
pub mod Sized
