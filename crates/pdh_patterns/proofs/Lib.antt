pub mod Clocked
pub mod Entered
pub mod Giving
pub mod MadeClear
pub mod MadeWithin
pub mod Register
