-- What the contracts cite.
pub mod Reading
pub mod Opening
pub mod Bodies
pub mod Playing
pub mod Sameness
pub mod Essence
pub mod Uncounted
pub mod WholeImage
pub mod Part
pub mod PartCut
pub mod Looping
pub mod BlocksInTurn
pub mod FirstBad
pub mod CodeSixteen
pub mod Unlooped
pub mod inner
