pub mod Cases
pub mod Divisors
pub mod Terms
