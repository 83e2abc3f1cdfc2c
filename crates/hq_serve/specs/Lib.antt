pub mod Asking
pub mod Causes
pub mod Inputs
pub mod Running
pub mod Seats
pub mod Served
