pub mod Script
pub mod Again
pub mod Mixed
pub mod Choices
