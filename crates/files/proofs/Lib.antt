mod Accounts
mod Bytes
mod Copies
mod Writers
