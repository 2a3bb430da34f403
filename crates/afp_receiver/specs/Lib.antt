pub mod Receiver
pub mod Plain
pub mod Examples
pub mod Told
