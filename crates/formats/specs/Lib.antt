pub mod NameText
pub mod TypeText
