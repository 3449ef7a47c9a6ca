pub mod Numbers
pub mod FieldsLemmas
pub mod Words
pub mod Repeats
pub mod Received
pub mod Answered
pub mod Worked
