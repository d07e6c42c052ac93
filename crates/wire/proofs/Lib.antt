mod Examples
pub mod Cuts
mod Names
pub mod Packets
pub mod Chain
pub mod HeaderBytes
pub mod Chunks
pub mod UnpackerState
pub mod OneSpelling
pub mod OnePacking
pub mod OneReading
pub mod SomeReading
pub mod Reader
