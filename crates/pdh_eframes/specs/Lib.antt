pub mod Sets
pub mod Plans
pub mod laws
