-- Laws. Those that other crates cite are public: sizes of floats by fractions and by powers of two, their signs, floats in units, and how far a rounding moves.
mod AlignedSums
mod Alignment
pub mod Bounds
mod Decomposition
mod Flags
mod HalfAway
pub mod InUnits
mod LessThan
mod NearestEven
mod Patterns
mod RoundedByExponent
mod RoundingByDigits
pub mod RoundingDistance
pub mod RoundingError
pub mod Signs
pub mod Sizes
mod SpecialValues
mod Sticky
mod StickyRounding
mod TwoWordSums
mod Shifts
pub mod Value
