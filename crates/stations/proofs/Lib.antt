pub mod Extent
pub mod Offset
pub mod Search
pub mod Fields
pub mod FieldAt
pub mod IdList
pub mod NextField
pub mod FieldPlace
