pub mod Answered
pub mod Appended
pub mod Hands
pub mod Kept
pub mod Looking
pub mod Places
pub mod Worked
pub mod Worlds
