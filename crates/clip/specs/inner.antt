-- What only private functions cite: nothing here has to be believed.
pub mod Asked
pub mod Encoded
