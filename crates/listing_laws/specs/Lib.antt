pub mod Listing
pub mod Caller
