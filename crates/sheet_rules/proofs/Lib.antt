pub mod Octets
pub mod Packets
pub mod AllReports
pub mod Repeats
pub mod Theorems
