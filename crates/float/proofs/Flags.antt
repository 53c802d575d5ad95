-- A flag has one value, and what two flags joined say of each. Assumes nothing.
use Rattle.std.proofs.Common.{◌≡◌, Bool, true, false, ◌&&◌, sym, refl, true≢false}

pub never : {P : Type 0} → false ≡ true → P
never e = absurd (true≢false (sym e))

pub never' : {P : Type 0} → true ≡ false → P
never' e = absurd (true≢false e)

pub and_left : (a b : Bool) → a && b ≡ true → a ≡ true
and_left true b e = refl
and_left false b e = never e

pub and_right : (a b : Bool) → a && b ≡ true → b ≡ true
and_right true b e = e
and_right false b e = never e
