-- What only the contracts of private functions cite.
pub mod Operands
pub mod Rounded
pub mod Sticky
pub mod Terms
