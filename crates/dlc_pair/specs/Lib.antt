pub mod World
pub mod History
pub mod Demand3
pub mod TableRun
pub mod Opening
pub mod Progress
pub mod Rules
