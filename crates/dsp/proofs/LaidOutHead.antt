-- The head and the bodies of an image that is laid out from its parts.
use mathlib.Core.Path.{◌≡◌, refl, sym, ap, ◌∙◌}
use mathlib.Core.Bool.{true, false}
use mathlib.Core.List.{List, ◌++◌, append_assoc}
use Prim.Native.Nat.{ℕ, ◌+◌, ◌*◌, ◌/◌, ◌≤◌, ◌<◌}
use native.Mathlib.Omega.{arith}
use lib.IntN.{pos}
use lib.ListN.{length, get_or, drop, length-append, get_or-append}
use lib.Seq.{drop_at, get_or-drop}
use mir.Syntax.{w16}
use mir.Val.{SFits}
use Rattle.whole.specs.declared.History.{History}
use Rattle.whole.specs.Frames.{frame_count}
use Rattle.block.specs.declared.FrameContext.{FrameContext}
use Rattle.layout.specs.declared.Shape.{Shape}
use Rattle.layout.specs.Fields.{at16, at32, mark}
use Rattle.layout.specs.Limits.{Limits, loop_ok}
use Rattle.layout.specs.Sizes.{no_loop, loop_count, bodies_place, block_count, body_bytes, image_size, last_frame_samples}
use Rattle.layout.proofs.LimitLaws.{loop-few}
use Rattle.clip.specs.declared.starting.Start.{Start}
use Rattle.clip.specs.Image.{start_shape, head_bytes, coefficient_bytes, context_bytes, table_bytes, loop_bytes}
use Rattle.clip.proofs.FieldRuns.{head-length, loop-length}
use Rattle.clip.proofs.Tables.{table-length}
use Rattle.clip.proofs.LaidOut as read
use Rattle.image.specs.Reading.{total_in, rate_in, block_in, gain_in, loops_in, blocks_in, coefficients_in}
use Rattle.image.specs.Opening.{mark_ok}
use Rattle.image.specs.inner.Asked.{Headed}
use Rattle.dsp.proofs.FieldsAgain.{coefficients-back}

regroup : (a b c d e : List ℕ) → (a ++ (b ++ (c ++ d))) ++ e ≡ a ++ (b ++ (c ++ (d ++ e)))
regroup a b c d e = simp append_assoc

-- a clip, headers and histories of its blocks, a context for its loop, and bodies, of which an image can be laid out
pub record Laid (g : Start) (header : ℕ → ℕ) (history : ℕ → History) (c : FrameContext) (bodies : List ℕ) : Type 0 where
  pub limits : Limits (start_shape g)
  pub sixteen : length g.coefficients ≡ 16
  pub sampled : (i : ℕ) → SFits w16 (get_or g.coefficients i (pos 0))
  pub rate : 1 ≤ g.rate
  pub count : length bodies ≡ body_bytes g.total
  pub heads : (j : ℕ) → j < block_count (start_shape g) → header j ≡ get_or bodies (j * g.block) 0
  pub rule : loop_ok g.looped g.total ≡ true
  pub unlooped : g.looped.present ≡ false → g.looped ≡ no_loop
  pub looped : g.looped.present ≡ true → c.predictor_and_scale ≡ get_or bodies (8 * (g.looped.start / 14)) 0

module _ (g : Start) (header : ℕ → ℕ) (history : ℕ → History) (c : FrameContext) (bodies : List ℕ) (P : Laid g header history c bodies) (rest : List ℕ) where
  abbrev s : Shape
  s = start_shape g

  abbrev kk : ℕ
  kk = block_count s

  -- the rule for the contexts
  abbrev rule : ℕ → List ℕ
  rule j = context_bytes (header j) (history j)

  abbrev table : List ℕ
  table = table_bytes rule s 0 kk

  abbrev entry : List ℕ
  entry = loop_bytes g.looped c

  -- the image, and what stands behind it
  abbrev laid : List ℕ
  laid = head_bytes mark g ++ (table ++ (entry ++ bodies))

  abbrev pub image : List ℕ
  image = laid ++ rest

  abbrev follows : List ℕ
  follows = entry ++ (bodies ++ rest)

  abbrev tail : List ℕ
  tail = table ++ follows

  -- its parts, with what stands behind it
  pub parts : image ≡ head_bytes mark g ++ tail
  parts = regroup (head_bytes mark g) table entry bodies rest

  -- ---- the head

  pub total-is : total_in image ≡ g.total
  unfolding total_in
  total-is = ap (λ (l : List ℕ). at32 l 4) parts ∙ read.head-total g tail P.sixteen

  pub rate-is : rate_in image ≡ g.rate
  unfolding rate_in
  rate-is = ap (λ (l : List ℕ). at32 l 8) parts ∙ read.head-rate g tail P.sixteen

  pub block-is : block_in image ≡ g.block
  unfolding block_in
  block-is = ap (λ (l : List ℕ). at32 l 12) parts ∙ read.head-block g tail P.sixteen

  pub gain-is : gain_in image ≡ g.gain
  unfolding gain_in
  gain-is = ap (λ (l : List ℕ). at16 l 48) parts ∙ read.head-gain g tail P.sixteen

  pub loops-are : loops_in image ≡ loop_count g.looped
  unfolding loops_in
  loops-are = ap (λ (l : List ℕ). at16 l 50) parts ∙ read.head-loops g tail P.sixteen

  pub blocks-are : blocks_in image ≡ kk
  unfolding blocks_in
  blocks-are = ap (λ (l : List ℕ). at32 l 52) parts ∙ read.head-blocks g tail P.sixteen

  marked : mark_ok image ≡ true
  unfolding mark_ok head_bytes coefficient_bytes block_count frame_count
  marked = ap mark_ok parts

  pub coefficients-are : coefficients_in image ≡ g.coefficients
  coefficients-are =
      coefficients-back image g.coefficients P.sixteen (λ i h. ap (λ (l : List ℕ). at16 l (16 + 2 * i)) parts ∙ read.head-coefficient g tail P.sixteen i h) P.sampled

  -- ---- the bodies

  abbrev earlier : List ℕ
  earlier = head_bytes mark g ++ (table ++ entry)

  earlier-length : length earlier ≡ bodies_place s
  earlier-length =
      length-append (head_bytes mark g) (table ++ entry)
      ∙ omega (arith, length-append table entry, head-length mark g refl P.sixteen, table-length rule (λ i. refl) s 0 kk, loop-length g.looped c)

  -- the image has S bytes
  pub laid-length : length laid ≡ image_size s
  unfolding image_size
  laid-length =
      length-append (head_bytes mark g) (table ++ (entry ++ bodies))
      ∙ omega (arith, length-append table (entry ++ bodies), length-append entry bodies, head-length mark g refl P.sixteen, table-length rule (λ i. refl) s 0 kk, loop-length g.looped c, P.count)

  -- its bodies stand where they begin
  pub bodies-on : drop (bodies_place s) image ≡ bodies ++ rest
  bodies-on =
      let e : image ≡ earlier ++ (bodies ++ rest) = parts ∙ again (head_bytes mark g) table entry (bodies ++ rest) in
      ap (drop (bodies_place s)) e ∙ drop_at earlier (bodies ++ rest) (bodies_place s) earlier-length
    where
      again : (a b c d : List ℕ) → a ++ (b ++ (c ++ d)) ≡ (a ++ (b ++ c)) ++ d
      again a b c d = simp append_assoc

  pub body_at : (i : ℕ) → i < body_bytes g.total → get_or image (bodies_place s + i) 0 ≡ get_or bodies i 0
  body_at i h =
      sym (get_or-drop (bodies_place s) image i 0)
      ∙ ap (λ (l : List ℕ). get_or l i 0) bodies-on
      ∙ get_or-append bodies rest 0 i (omega (arith, P.count))

  -- ---- what opening asks of the head

  long : image_size s ≤ length image
  long = omega (arith, length-append laid rest, laid-length)

  pub head-made : Headed image
  unfolding image_size block_count body_bytes frame_count last_frame_samples
  head-made =
      record {
        long = omega (arith, long);
        marked = marked;
        limits = rw (total-is, block-is, loops-are) P.limits;
        rate = rw rate-is P.rate;
        blocks = rw (total-is, block-is) blocks-are;
        loops = rw loops-are (loop-few g.looped);
        size = rw (total-is, block-is, loops-are) long;
      }
