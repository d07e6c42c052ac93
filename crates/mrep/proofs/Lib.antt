pub mod Statuses
pub mod Told
pub mod Entries
