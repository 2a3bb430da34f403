pub mod Id
