pub mod RowTexts
pub mod TextLines
