pub mod Found
pub mod Raw
pub mod Chunks
pub mod Theorems
