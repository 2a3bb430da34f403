pub mod Sum
pub mod Worked
pub mod Totals
