pub mod Read
pub mod Meaning
