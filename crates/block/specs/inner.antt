-- What only private functions cite.
pub mod Frames
pub mod Nibbles
pub mod Parts
