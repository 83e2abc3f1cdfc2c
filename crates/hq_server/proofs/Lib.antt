pub mod Answering
mod Examples
pub mod Running
pub mod Serving
