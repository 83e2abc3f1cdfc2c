pub mod Taking
pub mod Slots
