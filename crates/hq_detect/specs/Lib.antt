pub mod Assign
pub mod Planned
pub mod Probes
