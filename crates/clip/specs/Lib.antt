-- What the contracts cite.
pub mod Image
pub mod Encoding
pub mod Runs
pub mod Loops
pub mod Undo
pub mod Unheard
pub mod inner
