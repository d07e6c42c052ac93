pub mod RowText
pub mod DescribedTables
pub mod DatabaseSets
pub mod TextLines
