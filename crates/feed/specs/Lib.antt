pub mod Chain
pub mod Seconds
pub mod Stamps
pub mod Statements
