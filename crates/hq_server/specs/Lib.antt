pub mod Course
pub mod Ending
pub mod Places
pub mod Run
pub mod Stands
pub mod Tables
