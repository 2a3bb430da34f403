pub mod Octets
pub mod Frame
