-- What the calls leave, case by case.
use mathlib.Core.Path.{◌≡◌, ◌∙◌}
use mathlib.Core.Bool.{true, false}
use mathlib.Core.List.{List, ◌++◌}
use Prim.Native.Nat.{ℕ, ◌+◌, ◌≤◌, ◌<◌}
use borrow.Author.Tests.{lt-ltb, le-ltb}
use lib.Dec.{ltb}
use lib.IntN.{ℤ}
use lib.ListN.{length, drop, length-append}
use lib.Seq.{sets, sets-eq}
use native.Mathlib.Omega.{arith}
use Rattle.block.specs.declared.FrameContext.{FrameContext}
use Rattle.block.specs.Address.{address_to_sample}
use Rattle.block.specs.Frame.{Playing, playing}
use Rattle.block.specs.Refusals.{bad_length, lowest_pair, equal_coefficients}
use Rattle.whole.specs.Outcome.{accepted, refused, effect}
use Rattle.block.specs.Play.{play, play_bytes, play_into}
use Rattle.block.specs.Join.{extend_samples}
use Rattle.block.proofs.LawsPlay.{play-count}

module _ (bytes : List ℕ) (len : ℕ) (cs : List ℤ) (c : FrameContext) (out : List ℤ) where
  pub play-12 : bad_length len (length bytes) ≡ true → effect (refused 12) (playing c out) ≡ play_bytes bytes len cs c out
  unfolding play_bytes
  play-12 e = rw e

  pub play-13 : bad_length len (length bytes) ≡ false → lowest_pair cs ≡ true → effect (refused 13) (playing c out) ≡ play_bytes bytes len cs c out
  unfolding play_bytes
  play-13 e f = rw (e, f)

  pub play-14 : bad_length len (length bytes) ≡ false → lowest_pair cs ≡ false → length out < address_to_sample len → effect (refused 14) (playing c out) ≡ play_bytes bytes len cs c out
  unfolding play_bytes
  play-14 e f h = rw (e, f, lt-ltb (length out) (address_to_sample len) h)

  pub play-done : (n : ℕ) (l : Playing) → bad_length len (length bytes) ≡ false → lowest_pair cs ≡ false → address_to_sample len ≤ length out
      → n ≡ address_to_sample len → l ≡ play_into bytes cs len c out → effect (accepted n) l ≡ play_bytes bytes len cs c out
  unfolding play_bytes
  play-done n l e f h g k = rw (g, k, e, f, le-ltb (length out) (address_to_sample len) h)

module _ (first : List ℕ) (m : ℕ) (cs : List ℤ) (second : List ℕ) (n : ℕ) (ds : List ℤ) (out : List ℕ) where
  pub join-14 : ltb (length out) (length first + length second) ≡ true → effect (refused 14) out ≡ extend_samples first m cs second n ds out
  unfolding extend_samples
  join-14 e = rw e

  pub join-18 : ltb (length out) (length first + length second) ≡ false → equal_coefficients cs ds ≡ false → effect (refused 18) out ≡ extend_samples first m cs second n ds out
  unfolding extend_samples
  join-18 e f = rw (e, f)

  pub join-done : ltb (length out) (length first + length second) ≡ false → equal_coefficients cs ds ≡ true
      → effect (accepted (m + n)) (sets out 0 (first ++ second)) ≡ extend_samples first m cs second n ds out
  unfolding extend_samples
  join-done e f = rw (e, f)

-- ---- what lies beyond is untouched

splice : {A : Type 0} (vs out : List A) (n : ℕ) → length vs ≡ n → n ≤ length out → sets out 0 vs ≡ vs ++ drop n out
splice vs out n e h =
    let f : 0 + length vs ≡ n = omega arith in
    sets-eq vs out 0 (omega arith) ∙ rw f

-- the output after playing: the samples, and what stood beyond their count
pub play-out : (bytes : List ℕ) (cs : List ℤ) (len : ℕ) (c : FrameContext) (out : List ℤ) → 0 < len → address_to_sample len ≤ length out
    → (play_into bytes cs len c out).samples ≡ (play bytes cs len c).samples ++ drop (address_to_sample len) out
unfolding play_into
play-out bytes cs len c out l h = splice (play bytes cs len c).samples out (address_to_sample len) (play-count bytes cs len c l) h

-- exported: the output after joining: the two blocks' bytes, and what stood beyond them
pub join-out : (first second out : List ℕ) → length first + length second ≤ length out → sets out 0 (first ++ second) ≡ (first ++ second) ++ drop (length first + length second) out
join-out first second out h = splice (first ++ second) out (length first + length second) (length-append first second) h
