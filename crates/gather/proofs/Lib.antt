pub mod Parts
pub mod Paths
pub mod Tracing
mod Listed
mod Counts
mod Closing
mod Turns
mod Pushes
mod Calls
mod Ranks
mod Folds
mod Pops
mod Ends
