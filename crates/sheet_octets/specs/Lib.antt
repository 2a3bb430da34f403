pub mod Raw
