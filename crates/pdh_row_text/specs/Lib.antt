pub mod Text
pub mod Form
pub mod RateWords
pub mod Parsed
