-- What the contracts cite: section 3 of document 01, from the estimate to the encoded frame; and the Rust's expression that a theorem compares with it (Unclamped).
pub mod Estimate
pub mod Quantise
pub mod Pass
pub mod Search
pub mod Choice
pub mod Frame
pub mod Fits
pub mod Worked
pub mod Unclamped
pub mod inner
