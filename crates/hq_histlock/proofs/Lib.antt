pub mod Closes
pub mod Examples
pub mod Keeps
pub mod Moves
pub mod Opens
pub mod Seats
