pub mod Counted
pub mod Gathering
pub mod Memory
pub mod Next
pub mod Pieces
pub mod Reading
pub mod Scanning
pub mod Told
