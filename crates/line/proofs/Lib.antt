pub mod StackArrays
pub mod HeldStates
pub mod MachineOnLines
pub mod Asked
