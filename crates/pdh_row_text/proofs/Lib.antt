pub mod Splits
pub mod Searches
pub mod Counting
pub mod RateLaws
