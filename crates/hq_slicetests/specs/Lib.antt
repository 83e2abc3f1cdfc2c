-- The plans of the slices.
pub mod Works
