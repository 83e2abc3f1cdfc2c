pub mod Examples
pub mod Form
pub mod Guarded
pub mod Means
