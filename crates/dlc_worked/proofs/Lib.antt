pub mod Worked
pub mod Larger
pub mod Sixteen
pub mod Editions
pub mod Shortest
