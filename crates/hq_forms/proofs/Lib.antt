pub mod Every
pub mod Keys
mod Forms
