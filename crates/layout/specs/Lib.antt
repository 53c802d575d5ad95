-- What the contracts cite.
pub mod Sizes
pub mod Fields
pub mod Limits
