pub mod Order
pub mod Rules
pub mod Judge
pub mod Greedy
pub mod Next
pub mod Walk
pub mod CodeLaws
