-- What the contracts cite: FusedMultiplyAdd and Operations are the public functions'; what only private ones cite is in inner.
pub mod FusedMultiplyAdd
pub mod Operations
pub mod inner
