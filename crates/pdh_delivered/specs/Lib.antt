pub mod Deliveries
pub mod CBits
pub mod Alike
