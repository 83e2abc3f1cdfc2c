pub mod Binding
pub mod Examples
pub mod Form
pub mod Guarding
pub mod Keyed
pub mod Taking
pub mod Widening
