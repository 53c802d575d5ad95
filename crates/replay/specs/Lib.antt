-- What the contracts cite.
pub mod Digits
pub mod Buffers
