-- Laws on a cell's definitions.
pub mod Accessing
