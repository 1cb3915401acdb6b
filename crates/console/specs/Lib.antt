-- What reading into a buffer takes from its source.
pub mod Fill
