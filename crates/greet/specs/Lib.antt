pub mod Native
pub mod PacketHeader
pub mod Message
pub mod Refusal
pub mod View
pub mod Complete
