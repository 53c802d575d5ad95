-- Laws.
mod Defaults
mod Seen
pub mod Codes
pub mod Within
