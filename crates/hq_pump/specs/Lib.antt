pub mod Exchange
pub mod Pumping
pub mod Seen
pub mod Safe
pub mod Promise
