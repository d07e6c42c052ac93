pub mod Front
mod Names
pub mod Opens
pub mod Packings
pub mod OneAnswer
