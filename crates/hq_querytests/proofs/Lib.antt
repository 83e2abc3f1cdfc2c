-- What is known of the plans of the queries, and of the links between them.
pub mod Worked
pub mod Links
