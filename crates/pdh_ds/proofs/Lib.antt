pub mod BlockLaws
pub mod LossLaws
pub mod Worked
pub mod WorkedSlots
