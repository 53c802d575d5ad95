-- Laws: the exported ones are theorems of docs/GUARANTEES.md or serve proofs of other crates.
mod SampleSizes
mod StoredRecords
mod ChosenVector
mod RenewedVectors
mod SharedTerms
mod PlainContrasts
mod LeastAndNext
mod ByOutcome
mod OneSample
mod AcceptedCalls
mod RecordsAtFront
pub mod FrameHistories
pub mod StateOfSamples
pub mod WholeRuns
pub mod CutPieces
pub mod Bounded
pub mod EachCoefficient
pub mod AnyStore
pub mod ExactSums
pub mod EmptyVector
pub mod SameStores
pub mod Undo
