-- What the contracts cite.
pub mod File
pub mod Answers
pub mod Export
pub mod Import
pub mod Returns
pub mod inner
