pub mod Bytes
pub mod Ranges
pub mod Reading
pub mod Rules
pub mod Wire
