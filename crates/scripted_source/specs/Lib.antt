pub mod Script
pub mod Source
