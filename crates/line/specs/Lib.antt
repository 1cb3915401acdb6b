pub mod TurnRefusals
pub mod Answers
pub mod Steps
pub mod PlanLines
pub mod LineTurns
pub mod Stacks
pub mod Reductions
pub mod MachineRuns
