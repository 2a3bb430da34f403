pub mod Cases
pub mod Conversions
pub mod Laws
