pub mod Case
pub mod Text
