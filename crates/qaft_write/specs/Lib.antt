pub mod Answer
pub mod Write
pub mod Sending
