pub mod Integer
pub mod Packet
pub mod Header
pub mod Payload
pub mod Stream
pub mod Held
