pub mod Gists
pub mod Texts
pub mod Frames
pub mod Calls
pub mod Theorems
