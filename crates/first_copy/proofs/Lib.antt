pub mod RowLines
pub mod DefinedAt
pub mod FaultsAfter
pub mod FieldEnds
mod TextDigests
pub mod LineReading
mod Names
pub mod Supplies
pub mod TablePlaces
pub mod TextRows
