pub mod Run
pub mod RunLaws
pub mod InEffect
pub mod Steps
pub mod Running
