-- Numbers of 16 bits: those that bytes are, an image's or a file's, and the histories that playing leaves.
use mathlib.Core.Bool.{Bool, true, false, cond}
use mathlib.Core.List.{List, [], ◌∷◌, ◌++◌}
use Prim.Native.Nat.{ℕ, zero, suc, ◌+◌, ◌-◌, ◌*◌, ◌%◌, ◌<◌}
use native.Mathlib.Omega.{arith}
use lib.Dec.{eqb}
use lib.IntN.{ℤ, pos}
use lib.ListN.{get_or, drop}
use lib.Seq.{get_or-drop}
use mir.Syntax.{w16}
use mir.Val.{Fits, SFits}
use mir.ValLaws.{to_z-Fits}
use Rattle.whole.proofs.Clamping.{clamp-fits}
use Rattle.block.specs.declared.FrameContext.{FrameContext}
use Rattle.block.specs.Context.{new_context, push_sample, with_header}
use Rattle.block.specs.Sample.{decode_sample}
use Rattle.block.specs.Frame.{Playing, playing, nibble_at, next_sample, take_nibble}
use Rattle.block.specs.Play.{take_header, play_from, play}
use Rattle.layout.specs.Fields.{at16}
use Rattle.image.specs.Reading.{blocks_in, signed_at, coefficients_up_to, coefficients_in, newest_in, older_in, context_in, loop_in, loop_context_in}
use Rattle.dsp.specs.File.{coefficients_of, context_at}
use Rattle.dsp.specs.Returns.{Bytes}
use Rattle.dsp.proofs.HeaderFields.{Sixteen}

-- every coefficient and every history of an image has 16 bits
pub record Fitting (l : List ℕ) : Type 0 where
  pub coefficients : (i : ℕ) → SFits w16 (get_or (coefficients_in l) i (pos 0))
  pub contexts : (j : ℕ) → j < blocks_in l → Sixteen (context_in l j)
  pub looped : Sixteen (loop_context_in l)

-- ---- what bytes say

-- a part of bytes is one of bytes
pub bytes_drop : (n : ℕ) (l : List ℕ) → Bytes l → Bytes (drop n l)
bytes_drop n l b i = rw (get_or-drop n l i 0) (b (n + i))

zero-fits : SFits w16 (pos 0)
zero-fits = record { sfits = omega arith }

-- one number more
snoc-fits : (xs : List ℤ) (x : ℤ) → ((i : ℕ) → SFits w16 (get_or xs i (pos 0))) → SFits w16 x → (i : ℕ) → SFits w16 (get_or (xs ++ (x ∷ [])) i (pos 0))
snoc-fits [] x f h zero = h
snoc-fits [] x f h (suc i) = zero-fits
snoc-fits (y ∷ xs) x f h zero = f 0
snoc-fits (y ∷ xs) x f h (suc i) = snoc-fits xs x (λ k. f (suc k)) h i

module _ (l : List ℕ) (b : Bytes l) where
  -- two bytes
  pub word_fits : (i : ℕ) → Fits w16 (at16 l i)
  word_fits i = let p = b i in let q = b (i + 1) in record { fits = omega (arith, p, q) }

  signed-fits : (i : ℕ) → SFits w16 (signed_at l i)
  unfolding signed_at
  signed-fits i = to_z-Fits w16 (at16 l i) (word_fits i)

  upto-fit : (k i : ℕ) → SFits w16 (get_or (coefficients_up_to l k) i (pos 0))
  unfolding coefficients_up_to
  upto-fit zero i = zero-fits
  upto-fit (suc k) i = snoc-fits (coefficients_up_to l k) (signed_at l (16 + 2 * k)) (upto-fit k) (signed-fits (16 + 2 * k)) i

  entry-fits : (j : ℕ) → Sixteen (context_in l j)
  unfolding context_in newest_in older_in
  entry-fits j = record { newest = signed-fits _; older = signed-fits _ }

  loop-fits : Sixteen (loop_context_in l)
  unfolding loop_context_in
  loop-fits = go (loop_in l).present
    where
      go : (t : Bool) → Sixteen (cond t (context_in l (blocks_in l)) new_context)
      go true = entry-fits (blocks_in l)
      go false = record { newest = zero-fits; older = zero-fits }

  -- bytes make numbers of 16 bits
  pub bytes_fit : Fitting l
  unfolding coefficients_in
  bytes_fit = record { coefficients = upto-fit 16; contexts = λ j h. entry-fits j; looped = loop-fits }

  -- the contexts of a file's header
  pub context-fits : (i : ℕ) → Sixteen (context_at l i)
  unfolding context_at
  context-fits i = record { newest = signed-fits (i + 2); older = signed-fits (i + 4) }

-- a file's coefficients
pub coefficients-fit : (f : List ℕ) → Bytes f → (i : ℕ) → SFits w16 (get_or (coefficients_of f) i (pos 0))
unfolding coefficients_of
coefficients-fit f b = (bytes_fit (drop 12 f) (bytes_drop 12 f b)).coefficients

-- ---- playing

abbrev Fine : Playing → Type 0
Fine p = Sixteen p.context

either : (t : Bool) (p q : Playing) → Fine p → Fine q → Fine (cond t p q)
either true p q h k = h
either false p q h k = k

module _ (bytes : List ℕ) (cs : List ℤ) where
  nibble-fits : (p : Playing) (n : ℕ) → Fine p → Fine (take_nibble cs p n)
  unfolding take_nibble push_sample next_sample decode_sample
  nibble-fits p n h = record { newest = clamp-fits _; older = h.newest }

  header-fits : (a : ℕ) (p : Playing) → Fine p → Fine (take_header bytes a p)
  unfolding take_header with_header
  header-fits a p h = record { newest = h.newest; older = h.older }

  from-fits : (a n : ℕ) (p : Playing) → Fine p → Fine (play_from bytes cs a n p)
  unfolding play_from
  from-fits a zero p h = h
  from-fits a (suc zero) p h = either (eqb (a % 16) 0) (take_header bytes a p) (take_nibble cs p (nibble_at bytes a)) (header-fits a p h) (nibble-fits p (nibble_at bytes a) h)
  from-fits a (suc (suc n)) p h =
      either (eqb (a % 16) 0) (play_from bytes cs (2 + a) n (take_header bytes a p)) (play_from bytes cs (suc a) (suc n) (take_nibble cs p (nibble_at bytes a)))
      (from-fits (2 + a) n (take_header bytes a p) (header-fits a p h))
      (from-fits (suc a) (suc n) (take_nibble cs p (nibble_at bytes a)) (nibble-fits p (nibble_at bytes a) h))

  -- what playing leaves
  pub play-fits : (len : ℕ) (c : FrameContext) → Sixteen c → Sixteen (play bytes cs len c).context
  unfolding play
  play-fits len c h = from-fits 2 (len - 2) (playing c []) h
