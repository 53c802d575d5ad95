-- What only private functions and proofs cite.
pub mod Asked
pub mod Written
