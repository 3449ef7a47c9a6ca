pub mod Below
pub mod RemainderLaws
pub mod RightLaws
pub mod Parts
pub mod TakeLaws
