pub mod Fcs
pub mod Words
pub mod Bursts
