-- The plans of the queries, and their benches.
pub mod Benches
pub mod Works
