-- Laws that callers' proofs cite.
pub mod Places
pub mod Marks
pub mod Coefficients
pub mod TestsInTurn
pub mod OpenImages
pub mod LawsBody
pub mod LawsPlayed
pub mod LawsEqual
pub mod FramePlaces
pub mod Parts
pub mod BlockShape
pub mod BlockFrames
pub mod Joined
pub mod LawsSame
pub mod LawsAgree
pub mod AgreedFields
pub mod SameClip
pub mod Worked
pub mod LawsAll
pub mod BlocksPlayed
pub mod Touched
pub mod LawsRun
pub mod LawsLoop
pub mod UncountedBytes
pub mod UncountedSamples
pub mod UncountedBits
pub mod EqualBytes
pub mod PartOfAll
pub mod LoopPlayed
pub mod UnloopedOpens
pub mod BlocksTouched
pub mod BadEntries
pub mod WhereSixteenStood
mod LawsTurn
mod EntriesInTurn
mod EntryTests
mod BlocksOf
