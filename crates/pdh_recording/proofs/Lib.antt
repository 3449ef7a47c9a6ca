pub mod Beginning
pub mod Blocks
pub mod Giving
pub mod Passing
pub mod Replaying
pub mod Retrying
pub mod Seeing
