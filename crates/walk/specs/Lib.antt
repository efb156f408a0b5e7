pub mod Says
pub mod Decided
pub mod Completing
pub mod Passes
pub mod Handed
