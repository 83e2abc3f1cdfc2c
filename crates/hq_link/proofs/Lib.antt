pub mod Numbers
pub mod GramLaws
pub mod PairLaws
mod Examples
