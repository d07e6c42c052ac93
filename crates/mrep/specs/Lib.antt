pub mod Failure
pub mod Reason
pub mod Listing
