pub mod Sides
pub mod Packets
pub mod Ends
pub mod Events
pub mod Claim
