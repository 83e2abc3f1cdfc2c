pub mod FileRun
pub mod FileStep
pub mod Kept
pub mod MemPlan
pub mod Outcomes
pub mod Pages
