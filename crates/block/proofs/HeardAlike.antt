-- Top bits of headers, and nibbles that are not played, are not heard.
use mathlib.Core.List.{List, []}
use mathlib.Core.Logic.{⊎_elim}
use mathlib.Core.Path.{◌≡◌, refl, sym, ap, ◌∙◌}
use Prim.Native.Nat.{ℕ, zero, suc, ◌+◌, ◌-◌, ◌/◌, ◌%◌, ◌≤◌, ◌<◌}
use native.Mathlib.Omega.{arith}
use lib.IntN.{ℤ}
use lib.ListN.{get_or}
use Rattle.block.specs.declared.FrameContext.{FrameContext}
use Rattle.block.specs.Context.{predictor, scale, push_sample, with_header}
use Rattle.block.specs.Frame.{Playing, playing, nibble_at, next_sample, take_nibble}
use Rattle.block.specs.Play.{take_header, play_from, play}
use Rattle.block.proofs.LawsContext.{predictor-low, scale-low}
use Rattle.block.proofs.LawsParts.{none, starts}
use Rattle.block.proofs.LawsPlay.{at-sample, at-header}

-- two contexts of one history whose headers differ in top bits alone
pub record ContextsAlike (c d : FrameContext) : Type 0 where
  pub header : c.predictor_and_scale % 128 ≡ d.predictor_and_scale % 128
  pub history : c.last_samples ≡ d.last_samples

-- the same samples so far, and such contexts
pub record PlayedAlike (p q : Playing) : Type 0 where
  pub contexts : ContextsAlike p.context q.context
  pub samples : p.samples ≡ q.samples

-- address x of two bodies tells the same where it is played: a header but for its top bits, or a nibble
pub record HeardAlike (a b : List ℕ) (x : ℕ) : Type 0 where
  pub header : x % 16 ≡ 0 → get_or a (x / 2) 0 % 128 ≡ get_or b (x / 2) 0 % 128
  pub nibble : 2 ≤ x % 16 → nibble_at a x ≡ nibble_at b x

-- ---- one step

predictor-alike : (h g : ℕ) → h % 128 ≡ g % 128 → predictor h ≡ predictor g
predictor-alike h g e = sym (predictor-low h) ∙ ap predictor e ∙ predictor-low g

scale-alike : (h g : ℕ) → h % 128 ≡ g % 128 → scale h ≡ scale g
scale-alike h g e = sym (scale-low h) ∙ ap scale e ∙ scale-low g

next-alike : (cs : List ℤ) (c d : FrameContext) (n : ℕ) → ContextsAlike c d → next_sample cs c n ≡ next_sample cs d n
unfolding next_sample
next-alike cs c d n e =
    rw (
      predictor-alike c.predictor_and_scale d.predictor_and_scale e.header,
      scale-alike c.predictor_and_scale d.predictor_and_scale e.header,
      e.history,
    )

nibble-alike : (cs : List ℤ) (p q : Playing) (m n : ℕ) → PlayedAlike p q → m ≡ n → PlayedAlike (take_nibble cs p m) (take_nibble cs q n)
unfolding take_nibble push_sample
nibble-alike cs p q m n e f =
    let x = next-alike cs p.context q.context m e.contexts ∙ ap (next_sample cs q.context) f in
    record {
      contexts = record { header = e.contexts.header; history = rw (x, e.contexts.history) };
      samples = rw (x, e.samples);
    }

header-alike : (a b : List ℕ) (x : ℕ) (p q : Playing) → PlayedAlike p q → get_or a (x / 2) 0 % 128 ≡ get_or b (x / 2) 0 % 128 → PlayedAlike (take_header a x p) (take_header b x q)
unfolding take_header with_header
header-alike a b x p q e f = record { contexts = record { header = f; history = e.contexts.history }; samples = e.samples }

-- ---- from an address on

module _ (a b : List ℕ) (cs : List ℤ) where
  at-nibble : (x n : ℕ) (p q : Playing) → 2 ≤ x % 16 → PlayedAlike (play_from a cs (suc x) n (take_nibble cs p (nibble_at a x))) (play_from b cs (suc x) n (take_nibble cs q (nibble_at b x)))
      → PlayedAlike (play_from a cs x (suc n) p) (play_from b cs x (suc n) q)
  at-nibble x n p q h r = rw (at-sample a cs x n p h, at-sample b cs x n q h) r

  at_top : (x n : ℕ) (p q : Playing) → x % 16 ≡ 0 → PlayedAlike (play_from a cs (2 + x) (n - 1) (take_header a x p)) (play_from b cs (2 + x) (n - 1) (take_header b x q))
      → PlayedAlike (play_from a cs x (suc n) p) (play_from b cs x (suc n) q)
  at_top x n p q h r = rw (at-header a cs x n p h, at-header b cs x n q h) r

  -- The samples of both are the same, and the contexts after them alike.
  heard-from : (x n : ℕ) (p q : Playing) → (x % 16 ≡ 1 → ⊥) → ((y : ℕ) → x ≤ y → y < x + n → HeardAlike a b y) → PlayedAlike p q
      → PlayedAlike (play_from a cs x n p) (play_from b cs x n q)
  heard-from x zero p q s h e = rw (none a cs x p, none b cs x q) e
  heard-from x (suc zero) p q s h e =
      let y = h x (omega arith) (omega arith) in
      ⊎_elim
      (λ z. at_top x zero p q z (rw (none a cs (2 + x) (take_header a x p), none b cs (2 + x) (take_header b x q)) (header-alike a b x p q e (y.header z))))
      (λ z. at-nibble x zero p q z (rw (none a cs (suc x) (take_nibble cs p (nibble_at a x)), none b cs (suc x) (take_nibble cs q (nibble_at b x))) (nibble-alike cs p q (nibble_at a x) (nibble_at b x) e (y.nibble z))))
      (starts x s)
  heard-from x (suc (suc n)) p q s h e =
      let y = h x (omega arith) (omega arith) in
      let m : suc n - 1 ≡ n = omega arith in
      ⊎_elim
      (λ z. at_top x (suc n) p q z (rw m (heard-from (2 + x) n (take_header a x p) (take_header b x q) (λ i. omega arith) (λ w k l. h w (omega arith) (omega arith)) (header-alike a b x p q e (y.header z)))))
      (λ z. at-nibble x (suc n) p q z (heard-from (suc x) (suc n) (take_nibble cs p (nibble_at a x)) (take_nibble cs q (nibble_at b x)) (λ i. omega arith) (λ w k l. h w (omega arith) (omega arith)) (nibble-alike cs p q (nibble_at a x) (nibble_at b x) e (y.nibble z))))
      (starts x s)

  -- A block's samples are the same where contexts and bytes are alike.
  pub heard-play : (len : ℕ) (c d : FrameContext) → ((y : ℕ) → 2 ≤ y → y < len → HeardAlike a b y) → ContextsAlike c d → PlayedAlike (play a cs len c) (play b cs len d)
  unfolding play
  heard-play len c d h e = heard-from 2 (len - 2) (playing c []) (playing d []) (λ i. omega arith) (λ y k l. h y k (omega arith)) (record { contexts = e; samples = refl })
