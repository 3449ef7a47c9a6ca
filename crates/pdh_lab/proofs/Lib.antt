pub mod InTime
pub mod Lists
pub mod Received
pub mod Reported
pub mod Sent
pub mod Wanting
