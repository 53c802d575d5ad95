-- Laws that every crate's proofs cite: of signed values in locals, of differences of natural numbers, of the definitions, of runs of stores, of outcomes.
pub mod SignedLocals
pub mod Differences
pub mod Clamping
pub mod FloorDivision
pub mod Stores
pub mod SixteenBits
pub mod CutIntoFrames
pub mod Outcomes
