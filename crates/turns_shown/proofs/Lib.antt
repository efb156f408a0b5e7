pub mod Sets
pub mod Tags
