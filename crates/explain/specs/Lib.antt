pub mod Bytes
pub mod Positions
pub mod Explanations
