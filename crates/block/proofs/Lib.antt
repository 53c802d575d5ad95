-- Laws that callers' proofs cite.
pub mod LawsContext
pub mod LawsSample
pub mod LawsStores
pub mod LawsFrame
pub mod LawsRefusals
pub mod LawsAddress
pub mod LawsPlay
pub mod LawsParts
pub mod LawsOn
pub mod HeardAlike
pub mod LawsCalls
pub mod Worked
