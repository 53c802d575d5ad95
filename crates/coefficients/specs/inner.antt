-- What only private functions cite.
pub mod SmallSums
pub mod SharedTerms
pub mod PlainContrasts
pub mod Measurable
pub mod KeptRecord
pub mod LentNumber
