-- What the contracts cite.
pub mod Sizes
pub mod Codes
pub mod Measuring
pub mod Writing
pub mod Blocks
pub mod Files
pub mod Reading
