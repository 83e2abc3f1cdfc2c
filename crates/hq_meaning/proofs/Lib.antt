pub mod Bags
pub mod Examples
pub mod ExamplesOfPlans
pub mod ExamplesOfQueries
pub mod MeanLaw
pub mod Together
