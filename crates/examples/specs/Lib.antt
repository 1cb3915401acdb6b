pub mod Tables
pub mod Sheets
pub mod Turns
pub mod Worked
