-- Runs of fields, one after the other.
use mathlib.Core.Path.{◌≡◌, refl, sym, ap, ap₂, ◌∙◌}
use mathlib.Core.Bool.{Bool, true, false, cond}
use mathlib.Core.List.{List, [], ◌∷◌, ◌++◌}
use Prim.Native.Nat.{ℕ, ◌+◌, ◌*◌, ◌<◌}
use native.Mathlib.Omega.{arith}
use native.Mathlib.Numerals.{add-one}
use lib.IntN.{ℤ, pos}
use lib.ListN.{length, take, get_or, length-append}
use lib.Seq.{sets, take-suc, length-take-le}
use mir.Syntax.{w16}
use mir.Val.{of_z}
use Rattle.whole.proofs.Stores.{sets_then}
use Rattle.layout.specs.declared.Loop.{Loop}
use Rattle.block.specs.declared.FrameContext.{FrameContext}
use Rattle.layout.specs.Fields.{be16, be32, sample16}
use Rattle.clip.specs.Image.{start_shape, coefficient_bytes, head_bytes, context_bytes, loop_bytes}
use Rattle.clip.specs.declared.starting.Start.{Start}
use Rattle.layout.specs.Sizes.{loop_count, block_count}
use Rattle.whole.specs.Frames.{frame_count}

-- three runs one after the other
pub runs3 : (l l₁ l₂ l₃ a b c : List ℕ) (at p q : ℕ) → l₁ ≡ sets l at a → l₂ ≡ sets l₁ p b → l₃ ≡ sets l₂ q c → p ≡ at + length a → q ≡ p + length b → l₃ ≡ sets l at (a ++ (b ++ c))
runs3 l l₁ l₂ l₃ a b c at p q e₁ e₂ e₃ hp hq =
    e₃
    ∙ ap (λ (m : List ℕ). sets m q c) (e₂ ∙ ap (λ (m : List ℕ). sets m p b) e₁)
    ∙ sets_then (sets l at a) p q b c hq
    ∙ sets_then l at p a (b ++ c) hp

-- ---- coefficients

coefficient-snoc : (xs : List ℤ) (x : ℤ) → coefficient_bytes (xs ++ (x ∷ [])) ≡ coefficient_bytes xs ++ sample16 x
unfolding coefficient_bytes
coefficient-snoc [] x = refl
coefficient-snoc (y ∷ xs) x = ap (λ (l : List ℕ). sample16 y ++ l) (coefficient-snoc xs x)

pub coefficient-length : (cs : List ℤ) → length (coefficient_bytes cs) ≡ 2 * length cs
unfolding coefficient_bytes
coefficient-length [] = refl
coefficient-length (x ∷ cs) = omega (arith, coefficient-length cs)

pub coefficient-none : (l : List ℕ) (at : ℕ) (cs : List ℤ) → l ≡ sets l at (coefficient_bytes (take 0 cs))
unfolding coefficient_bytes
coefficient-none l at cs = refl

-- a coefficient more
pub coefficient-turn : (l₀ l out : List ℕ) (at : ℕ) (cs : List ℤ) (i r : ℕ) → i < length cs
    → l ≡ sets l₀ at (coefficient_bytes (take i cs)) → r ≡ of_z w16 (get_or cs i (pos 0)) → out ≡ sets l (at + 2 * i) (be16 r)
    → out ≡ sets l₀ at (coefficient_bytes (take (i + 1) cs))
coefficient-turn l₀ l out at cs i r lt e q eo =
    let k : at + 2 * i ≡ at + length (coefficient_bytes (take i cs)) = omega (arith, coefficient-length (take i cs), length-take-le i cs (omega arith)) in
    eo
    ∙ ap₂ (λ (m : List ℕ) (z : ℕ). sets m (at + 2 * i) (be16 z)) e q
    ∙ sets_then l₀ at (at + 2 * i) (coefficient_bytes (take i cs)) (sample16 (get_or cs i (pos 0))) k
    ∙ ap (λ (v : List ℕ). sets l₀ at v)
    (sym (coefficient-snoc (take i cs) (get_or cs i (pos 0))) ∙ ap coefficient_bytes (sym (take-suc cs i (pos 0) lt) ∙ ap (λ (a : ℕ). take a cs) (sym (add-one i))))

-- four runs one after the other
pub runs4 : (l l₁ l₂ l₃ l₄ a b c d : List ℕ) (at p q r : ℕ) → l₁ ≡ sets l at a → l₂ ≡ sets l₁ p b → l₃ ≡ sets l₂ q c → l₄ ≡ sets l₃ r d
    → p ≡ at + length a → q ≡ p + length b → r ≡ q + length c → l₄ ≡ sets l at (a ++ (b ++ (c ++ d)))
runs4 l l₁ l₂ l₃ l₄ a b c d at p q r e₁ e₂ e₃ e₄ hp hq hr =
    runs3 l₁ l₂ l₃ l₄ b c d p q r e₂ e₃ e₄ hq hr ∙ ap (λ (m : List ℕ). sets m p (b ++ (c ++ d))) e₁ ∙ sets_then l at p a (b ++ (c ++ d)) hp

pub head-length : (first : List ℕ) (g : Start) → length first ≡ 4 → length g.coefficients ≡ 16 → length (head_bytes first g) ≡ 56
unfolding head_bytes coefficient_bytes block_count frame_count
head-length first g p q =
    let cs = g.coefficients in
    let t : List ℕ = be16 g.gain ++ (be16 (loop_count g.looped) ++ be32 (block_count (start_shape g))) in
    let r : List ℕ = be32 g.total ++ (be32 g.rate ++ (be32 g.block ++ (coefficient_bytes cs ++ t))) in
    omega (arith, length-append first r, length-append (coefficient_bytes cs) t, coefficient-length cs)

-- the entry that a loop adds has 16 bytes
pub loop-length : (p : Loop) (c : FrameContext) → length (loop_bytes p c) ≡ 16 * loop_count p
unfolding loop_bytes
loop-length p c = go p.present
  where
    go : (t : Bool) → length (cond t (be32 p.start ++ (be32 p.end ++ (context_bytes c.predictor_and_scale c.last_samples ++ (0 ∷ 0 ∷ [])))) []) ≡ 16 * cond t 1 0
    go true = refl
    go false = refl
