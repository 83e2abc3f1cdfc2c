pub mod Ups
pub mod Probing
