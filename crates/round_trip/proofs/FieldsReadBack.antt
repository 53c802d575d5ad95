-- What the bytes of X's image say.
use mathlib.Core.Path.{◌≡◌, refl, ap, ap₂, ◌∙◌}
use mathlib.Core.Bool.{true}
use mathlib.Core.List.{List, ◌++◌, append_assoc}
use Prim.Native.Nat.{ℕ, zero, suc, ◌+◌, ◌*◌, ◌/◌, ◌<◌}
use native.Mathlib.Omega.{arith}
use borrow.Author.Tests.{lt-ltb}
use lib.IntN.{ℤ}
use lib.ListN.{get_or, replicate, get_or-append}
use lib.Seq.{get_or-take}
use mir.Syntax.{w16}
use mir.Val.{of_z}
use Rattle.whole.specs.declared.History.{History}
use Rattle.whole.specs.Frames.{frame_count}
use Rattle.block.specs.declared.FrameContext.{FrameContext}
use Rattle.layout.specs.Sizes.{block_count, body_bytes, entry_place, bodies_place, block_offset, block_length}
use Rattle.layout.specs.Fields.{at16, at32, mark}
use Rattle.clip.specs.Image.{start_shape, context_bytes, table_bytes, loop_bytes}
use Rattle.clip.specs.declared.starting.Start.{Start}
use Rattle.clip.specs.Runs.{history_at, encoded_at, bodies, context_at, loop_context_at, loop_entry}
use Rattle.clip.proofs.FieldsAgain.{shift}
use Rattle.clip.proofs.LaidOut as laid
use Rattle.clip.proofs.LaterSamples.{encoded-length, bodies-length, context-length}
use Rattle.clip.proofs.ImageByFrames.{Fine, headed, listed, filled, headed-length, listed-length, filled-length, entry-last, regroup, built}
use Rattle.round_trip.proofs.EqualParts.{row, row_at}

bodies-row : (g : Start) (xs : List ℤ) (k : ℕ) → bodies g xs k ≡ row (λ i. (encoded_at g xs i).bytes) k
unfolding bodies row encoded_at history_at
bodies-row g xs zero = refl
bodies-row g xs (suc k) = ap (λ (l : List ℕ). l ++ (encoded_at g xs k).bytes) (bodies-row g xs k)

bodies-at : (g : Start) (xs : List ℤ) (k i r : ℕ) → i < k → r < 8 → get_or (bodies g xs k) (8 * i + r) 0 ≡ get_or (encoded_at g xs i).bytes r 0
bodies-at g xs k i r h l =
    let e : 8 * i + r ≡ i * 8 + r = omega arith in
    ap₂ (λ (bytes : List ℕ) (n : ℕ). get_or bytes n 0) (bodies-row g xs k) e ∙ row_at 0 8 (λ i. (encoded_at g xs i).bytes) (encoded-length g xs) k i r h l

module _ (g : Start) (F : Fine g) (xs : List ℤ) (k : ℕ) (rest : List ℕ) where
  -- the image with k frames encoded, closed, and what is after it
  abbrev all : List ℕ
  all = built g mark (loop_entry g xs true) xs k ++ rest

  -- the contents, and what follows the contents
  abbrev table : List ℕ
  table = table_bytes (context_at g xs k) (start_shape g) 0 (block_count (start_shape g))

  abbrev follows : List ℕ
  follows = loop_entry g xs true ++ (filled g xs k ++ rest)

  pub parts : all ≡ headed g mark ++ (listed g (loop_entry g xs true) xs k ++ (filled g xs k ++ rest))
  unfolding built
  parts = regroup (headed g mark) (listed g (loop_entry g xs true) xs k) (filled g xs k) rest

  around : all ≡ headed g mark ++ (table ++ follows)
  around = parts ∙ ap (λ (l : List ℕ). headed g mark ++ l) (append_assoc table (loop_entry g xs true) (filled g xs k ++ rest))

  module _ (j : ℕ) (few : j < block_count (start_shape g)) (some : j * (g.block / 8) < k) where
    abbrev first : ℕ
    first = j * (g.block / 8)

    abbrev header : ℕ
    header = get_or (encoded_at g xs first).bytes 0 0

    abbrev history : History
    history = history_at g xs first

    context-is : context_at g xs k j ≡ context_bytes header history
    unfolding context_at encoded_at history_at
    context-is = rw (lt-ltb (j * (g.block / 8)) k some)

    pub entry-offset : at32 all (entry_place j) ≡ block_offset (start_shape g) j
    entry-offset = ap (λ (l : List ℕ). at32 l (entry_place j)) around ∙ laid.entry-offset g F.sixteen (context_at g xs k) (context-length g xs k) follows j few header history context-is

    pub entry-nibbles : at32 all (entry_place j + 4) ≡ block_length (start_shape g) j
    entry-nibbles = ap (λ (l : List ℕ). at32 l (entry_place j + 4)) around ∙ laid.entry-nibbles g F.sixteen (context_at g xs k) (context-length g xs k) follows j few header history context-is

    pub entry-header : at16 all (entry_place j + 8) ≡ header
    entry-header = ap (λ (l : List ℕ). at16 l (entry_place j + 8)) around ∙ laid.entry-header g F.sixteen (context_at g xs k) (context-length g xs k) follows j few header history context-is

    pub entry-newest : at16 all (entry_place j + 10) ≡ of_z w16 history.newest
    entry-newest = ap (λ (l : List ℕ). at16 l (entry_place j + 10)) around ∙ laid.entry-newest g F.sixteen (context_at g xs k) (context-length g xs k) follows j few header history context-is

    pub entry-older : at16 all (entry_place j + 12) ≡ of_z w16 history.older
    entry-older = ap (λ (l : List ℕ). at16 l (entry_place j + 12)) around ∙ laid.entry-older g F.sixteen (context_at g xs k) (context-length g xs k) follows j few header history context-is

    pub entry-zeros : at16 all (entry_place j + 14) ≡ 0
    entry-zeros = ap (λ (l : List ℕ). at16 l (entry_place j + 14)) around ∙ laid.entry-zeros g F.sixteen (context_at g xs k) (context-length g xs k) follows j few header history context-is

  -- ---- the entry of the loop

  module _ (here : g.looped.present ≡ true) where
    abbrev kk : ℕ
    kk = block_count (start_shape g)

    abbrev stored : FrameContext
    stored = loop_context_at g xs (frame_count g.total)

    entry-is : follows ≡ loop_bytes g.looped stored ++ (filled g xs k ++ rest)
    unfolding loop_entry
    entry-is = refl

    pub loop-start : at32 all (entry_place kk) ≡ g.looped.start
    loop-start = ap (λ (l : List ℕ). at32 l (entry_place kk)) around ∙ laid.loop-start g F.sixteen (context_at g xs k) (context-length g xs k) follows g.looped here stored (filled g xs k ++ rest) entry-is

    pub loop-end : at32 all (entry_place kk + 4) ≡ g.looped.end
    loop-end = ap (λ (l : List ℕ). at32 l (entry_place kk + 4)) around ∙ laid.loop-end g F.sixteen (context_at g xs k) (context-length g xs k) follows g.looped here stored (filled g xs k ++ rest) entry-is

    pub loop-header : at16 all (entry_place kk + 8) ≡ stored.predictor_and_scale
    loop-header = ap (λ (l : List ℕ). at16 l (entry_place kk + 8)) around ∙ laid.loop-header g F.sixteen (context_at g xs k) (context-length g xs k) follows g.looped here stored (filled g xs k ++ rest) entry-is

    pub loop-newest : at16 all (entry_place kk + 10) ≡ of_z w16 stored.last_samples.newest
    loop-newest = ap (λ (l : List ℕ). at16 l (entry_place kk + 10)) around ∙ laid.loop-newest g F.sixteen (context_at g xs k) (context-length g xs k) follows g.looped here stored (filled g xs k ++ rest) entry-is

    pub loop-older : at16 all (entry_place kk + 12) ≡ of_z w16 stored.last_samples.older
    loop-older = ap (λ (l : List ℕ). at16 l (entry_place kk + 12)) around ∙ laid.loop-older g F.sixteen (context_at g xs k) (context-length g xs k) follows g.looped here stored (filled g xs k ++ rest) entry-is

    pub loop-zeros : at16 all (entry_place kk + 14) ≡ 0
    loop-zeros = ap (λ (l : List ℕ). at16 l (entry_place kk + 14)) around ∙ laid.loop-zeros g F.sixteen (context_at g xs k) (context-length g xs k) follows g.looped here stored (filled g xs k ++ rest) entry-is

  -- ---- the bodies

  pub body_at : (i r : ℕ) → i < k → r < 8 → 8 * i + r < body_bytes g.total
      → get_or all (bodies_place (start_shape g) + (8 * i + r)) 0 ≡ get_or (encoded_at g xs i).bytes r 0
  body_at i r lk lr lt =
      let p = bodies_place (start_shape g) + (8 * i + r) in
      let q = 16 * (block_count (start_shape g) + (start_shape g).extra) + (8 * i + r) in
      let t = body_bytes g.total in
      ap (λ (l : List ℕ). get_or l p 0) parts
      ∙ shift (headed g mark) (listed g (loop_entry g xs true) xs k ++ (filled g xs k ++ rest)) p q (omega (arith, headed-length g F mark refl))
      ∙ shift (listed g (loop_entry g xs true) xs k) (filled g xs k ++ rest) q (8 * i + r) (omega (arith, listed-length g (loop_entry g xs true) (entry-last g xs true) xs k))
      ∙ get_or-append (filled g xs k) rest 0 (8 * i + r) (omega (arith, filled-length g xs k))
      ∙ get_or-take t (bodies g xs k ++ replicate t 0) (8 * i + r) 0 lt
      ∙ get_or-append (bodies g xs k) (replicate t 0) 0 (8 * i + r) (omega (arith, bodies-length g xs k))
      ∙ bodies-at g xs k i r lk lr
