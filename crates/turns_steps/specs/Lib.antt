pub mod Step
pub mod Quiet
pub mod Loud
