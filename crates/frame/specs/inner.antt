-- What only private functions cite: how the code gets at what the definitions beside this folder say.
pub mod Places
pub mod Ends
pub mod Quick
pub mod Seen
pub mod Nibbles
