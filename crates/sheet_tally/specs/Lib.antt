pub mod Adding
pub mod Examples
