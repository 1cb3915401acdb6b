-- What the input's parts are, and what a line says.
pub mod InputParts
pub mod TypedLines
