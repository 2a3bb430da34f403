pub mod Numbers
pub mod Answer
pub mod Refusals
pub mod Sending
