pub mod Begins
mod Examples
pub mod Exact
pub mod Statements
mod Tokens
mod Turns
pub mod Texts
pub mod Fits
