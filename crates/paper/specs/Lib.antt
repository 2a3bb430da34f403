pub mod Table
