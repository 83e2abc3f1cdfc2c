pub mod Quoting
pub mod Left
pub mod Blanks
pub mod Scanning
pub mod Gathering
pub mod Cutting
pub mod Planning
pub mod Chunks
pub mod Given
mod Rows
