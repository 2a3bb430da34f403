pub mod Delivered
pub mod Silent
