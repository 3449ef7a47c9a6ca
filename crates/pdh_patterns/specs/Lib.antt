pub mod Leaves
pub mod Pattern
pub mod Patterns
