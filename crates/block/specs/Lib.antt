-- What the contracts cite.
pub mod Address
pub mod Context
pub mod Sample
pub mod Frame
pub mod Refusals
pub mod Play
pub mod Join
pub mod inner
