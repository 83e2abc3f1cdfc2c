pub mod Doors
pub mod FileNames
pub mod Memory
pub mod Words
