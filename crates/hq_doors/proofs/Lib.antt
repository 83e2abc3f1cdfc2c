pub mod Forms
pub mod Named
mod Rows
