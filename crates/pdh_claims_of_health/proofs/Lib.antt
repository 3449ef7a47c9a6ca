mod Pictures
mod Apart
mod Found
