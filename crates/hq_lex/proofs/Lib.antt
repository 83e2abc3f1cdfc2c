pub mod TokenLaws
pub mod Examples
