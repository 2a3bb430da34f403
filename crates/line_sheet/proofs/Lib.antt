pub mod LevelLaws
pub mod Others
pub mod Printing
