-- What the theorems cite.
pub mod Job
pub mod ClosedClip
pub mod Numbers
