-- Laws of sizes and limits.
pub mod Stored
pub mod SizeLaws
pub mod LimitLaws
