pub mod Every
pub mod Examples
pub mod ExamplesOfPlans
pub mod Faultless
pub mod Inputs
pub mod Nodes
pub mod Typed
