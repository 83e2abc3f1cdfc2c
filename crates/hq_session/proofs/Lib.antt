pub mod Benching
pub mod Defining
pub mod Expecting
pub mod Handed
pub mod Hearing
pub mod Outcomes
pub mod Readings
pub mod Sounds
