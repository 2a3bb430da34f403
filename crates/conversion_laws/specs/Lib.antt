pub mod Frames
pub mod Caller
