mod PartLists
mod Cuts
mod Names
mod Readers
pub mod Greetings
pub mod Replies
mod Responses
mod Dumps
mod Errors
mod MessageBytes
mod Complete
mod ErrBytes
