-- What the contracts and the exported theorems cite; `inner` holds what only private functions cite.
pub mod Constants
pub mod Sums
pub mod RustSums
pub mod Analysis
pub mod Store
pub mod Clusters
pub mod Finish
pub mod FrameRecord
pub mod Measure
pub mod Runs
pub mod StateOfSamples
pub mod Undo
pub mod CoefficientLimits
pub mod inner
