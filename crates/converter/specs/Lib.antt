pub mod Answer
pub mod Gist
pub mod Convert
