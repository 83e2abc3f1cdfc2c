pub mod Rules
pub mod Reading
pub mod Grammar
pub mod Statements
pub mod Texts
pub mod Fits
