pub mod Words
pub mod WordLaws
pub mod Gaining
pub mod Places
