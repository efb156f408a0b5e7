pub mod Agree
pub mod Lists
pub mod Pass
pub mod Shift
pub mod Clock
