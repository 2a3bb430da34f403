pub mod Pieces
pub mod Parts
pub mod Counting
pub mod Written
pub mod Either
