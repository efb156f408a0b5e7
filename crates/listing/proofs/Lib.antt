pub mod Front
pub mod LineLaws
pub mod Pending
pub mod Told
