-- Laws of the tests of a file.
use mathlib.Core.Bool.{Bool, true, false, not, cond, ◌&&◌}
use mathlib.Core.List.{List}
use mathlib.Core.Path.{◌≡◌, refl, sym, ap, ◌∙◌}
use Prim.Native.Nat.{ℕ, zero, suc, ◌+◌, ◌*◌, ◌/◌, ◌%◌, ◌≤◌, ◌<◌}
use native.Mathlib.Omega.{arith}
use borrow.Author.Tests.{leb-true, ltb-true, ne_eqb}
use lib.Dec.{eqb, leb, eqb-suc-zero}
use lib.ListN.{length, get_or, replicate, take, drop}
use Rattle.std.specs.List.{list_all}
use Rattle.std.proofs.Common.{drop-cons}
use Rattle.whole.specs.Frames.{most, frame_count}
use Rattle.whole.specs.Outcome.{Outcome, accepted, refused_at, refused, with_values, without_values, value_or}
use Rattle.whole.proofs.Outcomes.{not-both}
use Rattle.block.specs.Address.{address_to_sample}
use Rattle.block.specs.Refusals.{lowest_pair}
use Rattle.layout.specs.Fields.{at16, at32}
use Rattle.layout.specs.Limits.{total_ok, block_ok}
use Rattle.layout.specs.Sizes.{last_frame_samples, body_bytes}
use Rattle.layout.proofs.LimitLaws.{both_true}
use Rattle.image.specs.Opening.{and_then, holds}
use Rattle.dsp.specs.inner.Asked.{Whole, whole_answer, numbers_ok}
use Rattle.dsp.specs.File.{nibble_count, total_of, nibbles_of, flag_of, rate_of, coefficients_of, bodies_of}
use Rattle.dsp.specs.Import.{needed, long_enough, of_sample, loop_fields_ok, no_loop_fields, fields_ok, file_answer}

-- a count needs hardly more bytes than it is
pub needed-small : (n : ℕ) → needed n ≤ n + 9
unfolding needed body_bytes last_frame_samples frame_count
needed-small zero = omega arith
needed-small (suc n) = rw (eqb-suc-zero n) (omega arith)

-- the frame of an address of one of n samples begins within their bodies
pub frame-inside : (n a : ℕ) → of_sample n a ≡ true → 8 * (a / 16) < body_bytes n
unfolding of_sample address_to_sample body_bytes last_frame_samples frame_count
frame-inside n a e = let s = ltb-true (address_to_sample a) n (both_true (leb 2 (a % 16)) _ e).1 in omega (arith, s)

-- a file that is long enough
pub long-says : (f : List ℕ) → long_enough f ≡ true → (96 ≤ length f) × (96 + needed (total_of f) ≤ length f)
unfolding long_enough
long-says f e = let b = both_true (leb 96 (length f)) _ e in (leb-true 96 (length f) b.0, leb-true (96 + needed (total_of f)) (length f) b.1)

-- and whose count is within the limits
pub whole_says : (f : List ℕ) → long_enough f ≡ true → 1 ≤ total_of f → total_of f ≤ most → Whole f
unfolding needed
whole_says f e a b = record { some = a; few = b; bodies = rw (ne_eqb (total_of f) 0 (λ z. omega (arith, z, a))) at (long-says f e).1 }

-- zeros in a part
pub zeros-in : (l : List ℕ) (i n : ℕ) → i + n ≤ length l → list_all (λ (x : ℕ). eqb x 0) (take n (drop i l)) ≡ holds l i (replicate n 0)
zeros-in l i zero h = refl
zeros-in l i (suc n) h = rw (drop-cons l i 0 (omega arith), zeros-in l (suc i) n (omega arith))

-- a chain of seven tests, the first four of them joined
four-first : (a b c d e : Bool) → (a && (b && (c && (d && e)))) ≡ ((a && (b && (c && d))) && e)
four-first true true true d e = refl
four-first true true false d e = refl
four-first true false c d e = refl
four-first false b c d e = refl

pub fields-parts : (f : List ℕ) → fields_ok f ≡ (numbers_ok f && (holds f 74 (replicate 22 0) && (eqb (at16 f 62) (get_or (bodies_of f) 0 0) && cond (eqb (flag_of f) 1) (loop_fields_ok f) (no_loop_fields f))))
unfolding fields_ok numbers_ok
fields-parts f = four-first (eqb (nibbles_of f) (nibble_count (total_of f))) (leb (flag_of f) 1) (eqb (at16 f 14) 0) (eqb (at32 f 24) 2) _

-- ---- outcomes with values

pub values-refused : {A : Type 0} (o : Outcome Unit) (v : A) {n j : ℕ} → refused_at n j ≡ with_values o v → o ≡ refused_at n j
values-refused (accepted u) v p = absurd (not-both p)
values-refused (refused_at n j) v p = ap without_values (sym p)

pub values-accepted : {A : Type 0} (o : Outcome Unit) (v : A) {w : A} → accepted w ≡ with_values o v → (o ≡ accepted tt) × (w ≡ v)
values-accepted {A = A} (accepted u) v {w = w} p = (refl, ap (λ (x : Outcome A). value_or x w) p)
values-accepted (refused_at n j) v p = absurd (not-both (sym p))

-- ---- the tests of import, after those by which a file is whole

abbrev pub after_whole : List ℕ → ℕ → Outcome Unit
after_whole f size = cond (eqb (rate_of f) 0) (refused 5) (cond (not (block_ok size)) (refused 6) (cond (not (fields_ok f)) (refused 26) (cond (lowest_pair (coefficients_of f)) (refused 13) (accepted tt))))

two-first : (a b : Bool) (next : Outcome Unit) → cond (not a) (refused 25) (cond (not b) (refused 4) next) ≡ and_then (cond (not a) (refused 25) (cond (not b) (refused 4) (accepted tt))) next
two-first true true next = refl
two-first true false next = refl
two-first false b next = refl

pub file-in-turn : (f : List ℕ) (size : ℕ) → file_answer f size ≡ and_then (whole_answer f) (after_whole f size)
unfolding file_answer whole_answer
file-in-turn f size = two-first (long_enough f) (total_ok (total_of f)) (after_whole f size)

-- a file that is not whole is refused so
pub not-whole : (f : List ℕ) (size : ℕ) {n j : ℕ} → whole_answer f ≡ refused_at n j → file_answer f size ≡ refused_at n j
not-whole f size e = file-in-turn f size ∙ ap (λ (o : Outcome Unit). and_then o (after_whole f size)) e

-- of one that is, the next tests are asked
pub whole-next : (f : List ℕ) (size : ℕ) → whole_answer f ≡ accepted tt → file_answer f size ≡ after_whole f size
whole-next f size e = file-in-turn f size ∙ ap (λ (o : Outcome Unit). and_then o (after_whole f size)) e
