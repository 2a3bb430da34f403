pub mod Scan
pub mod Trace
pub mod Chunks
pub mod Gather
pub mod Simulation
pub mod Texts
