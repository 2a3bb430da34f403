pub mod Fields
pub mod FieldAt
pub mod IdList
