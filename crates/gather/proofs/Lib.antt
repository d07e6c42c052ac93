mod Names
pub mod ImagePacking
pub mod RowImages
pub mod CellImages
pub mod WholeImages
pub mod ImageParts
pub mod Maps
pub mod RowItems
pub mod States
pub mod LongerLists
pub mod OneMoreEvent
pub mod ShorterLists
pub mod OneList
pub mod NextEvents
pub mod ListedOnes
