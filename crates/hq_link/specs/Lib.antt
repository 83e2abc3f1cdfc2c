pub mod Gram
pub mod Reading
pub mod Seen
pub mod Streams
pub mod Link
pub mod Pair
pub mod Arrival
