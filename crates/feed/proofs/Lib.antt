mod Hashed
mod Spans
mod Threads
