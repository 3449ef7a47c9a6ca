pub mod OwnNumbers
pub mod Frame
pub mod Tributary
pub mod Payload
pub mod Walk
pub mod KeptLaws
pub mod laws
