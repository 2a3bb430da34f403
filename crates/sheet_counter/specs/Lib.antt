pub mod Answer
pub mod Count
