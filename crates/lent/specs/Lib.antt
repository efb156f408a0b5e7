-- Laws of lent forms, for the proofs of other crates.
pub mod Datum
pub mod Lent
pub mod LentOne
pub mod Gives
pub mod SweepEach
pub mod Loan
pub mod LoanSlice
pub mod Again
pub mod AgainOne
pub mod Itself
