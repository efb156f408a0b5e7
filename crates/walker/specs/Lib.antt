pub mod Walking
pub mod Steps
pub mod Way
pub mod Ends
pub mod Stands
