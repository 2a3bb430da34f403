pub mod Linear
pub mod Register
pub mod Words
pub mod Last
pub mod Residue
pub mod Bursts
pub mod Worked
