-- What the contracts cite.
pub mod Whole
pub mod Frames
pub mod Outcome
