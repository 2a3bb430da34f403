pub mod Rules
pub mod Examples
pub mod Longer
