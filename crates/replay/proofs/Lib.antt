-- What the proofs share.
pub mod Places
pub mod Pieces
