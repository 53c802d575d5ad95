-- State and buffer are functions of the start and of X: after each sample, and after closing.
use mathlib.Core.Path.{◌≡◌, refl, sym, ap, ap₂, ◌∙◌}
use mathlib.Core.Logic.{◌≢◌, inl, inr}
use mathlib.Core.List.{List, [], ◌∷◌, ◌++◌, append-nil, foldl}
use mathlib.Core.Bool.{Bool, true, false, cond}
use Prim.Native.Nat.{ℕ, suc, ◌+◌, ◌-◌, ◌/◌, ◌%◌, ◌≤◌, ◌<◌}
use native.Mathlib.Omega.{arith}
use borrow.Author.Tests.{eqb-true, eqb-false}
use lib.Dec.{eqb}
use lib.IntN.{ℤ, pos}
use lib.ListN.{length, take, set, replicate, length-append}
use lib.Seq.{sets, take_all, append_snoc}
use Rattle.clip.specs.Image.{start_shape, loop_bytes}
use Rattle.whole.specs.Frames.{frame_at, frame_count}
use Rattle.whole.proofs.CutIntoFrames.{frame-snoc, frame-none, frame-pad}
use Rattle.frame.specs.Frame.{encode_frame, history_after}
use Rattle.frame.specs.declared.EncodedFrame.{EncodedFrame}
use Rattle.whole.specs.declared.History.{History}
use Rattle.block.specs.declared.FrameContext.{FrameContext}
use Rattle.frame.proofs.LawsEncoded.{history-start}
use Rattle.layout.specs.Sizes.{last_frame_samples, body_bytes}
use Rattle.layout.specs.Fields.{mark, no_mark}
use Rattle.clip.specs.Encoding.{Left, left, store, loop_context, ended, moved, no_frame, begun, push, feed_all, finish}
use Rattle.clip.specs.declared.starting.Start.{Start}
use Rattle.clip.specs.Runs.{history_at, encoded_at, passes_up_to, loop_context_at, loop_entry, image_after, state_after, left_after, context_at, bodies}
use Rattle.clip.proofs.Storing.{full-frame}
use Rattle.clip.proofs.LaterSamples.{history-stable, passes-stable, loop-stable, encoded-length}
use Rattle.clip.proofs.FieldRuns.{loop-length}
use Rattle.clip.proofs.ImageByFrames.{Fine, built, image-built, built-stable, entry-last, built-mark, built-loop, built-store, loop-next}

-- a state by its parts, so that equal parts give equal states
abbrev made : Start → Bool → ℕ → History → List ℤ → ℕ → FrameContext → List ℕ → Left
made g c n h f p t l = left (moved (begun g) n h f p c t) l

made-same : (g : Start) (c : Bool) {n n' : ℕ} {h h' : History} {f f' : List ℤ} {p p' : ℕ} {t t' : FrameContext} {l l' : List ℕ}
    → n ≡ n' → h ≡ h' → f ≡ f' → p ≡ p' → t ≡ t' → l ≡ l' → made g c n h f p t l ≡ made g c n' h' f' p' t' l'
made-same g c a b d e m k = λ i. made g c (a i) (b i) (d i) (e i) (m i) (k i)

-- ---- one frame more

history-next : (g : Start) (ys : List ℤ) (q : ℕ) → history_after (history_at g ys q) (encoded_at g ys q).samples 14 ≡ history_at g ys (suc q)
unfolding history_at encoded_at
history-next g ys q = refl

passes-next : (g : Start) (ys : List ℤ) (q : ℕ) → passes_up_to g ys q + (encoded_at g ys q).passes ≡ passes_up_to g ys (suc q)
unfolding passes_up_to encoded_at history_at
passes-next g ys q = refl

encoded-is : (g : Start) (ys : List ℤ) (q : ℕ) → encode_frame (history_at g ys q) (frame_at ys q) g.coefficients ≡ encoded_at g ys q
unfolding encoded_at history_at
encoded-is g ys q = refl

-- ---- one sample more

module _ (g : Start) (F : Fine g) (rest : List ℕ) (xs : List ℤ) (x : ℤ) (lt : length xs < g.total) where
  abbrev ys : List ℤ
  ys = xs ++ (x ∷ [])

  abbrev q : ℕ
  q = length xs / 14

  abbrev f : List ℤ
  f = set (frame_at xs (length xs / 14)) (length xs % 14) x

  longer : length xs + 1 ≡ length ys
  longer = sym (length-append xs (x ∷ []))

  before : history_at g xs q ≡ history_at g ys q
  before = sym (history-stable g xs (x ∷ []) q (omega arith))

  abbrev none : List ℕ
  none = loop_entry g xs false

  image-before : image_after g xs false ≡ built g no_mark none ys q
  image-before = image-built g xs false ∙ sym (built-stable g no_mark none xs (x ∷ []) q (omega arith))

  -- no byte of the entry that a loop adds is written before closing
  none-still : none ≡ loop_entry g ys false
  unfolding loop_entry
  none-still = refl

  fills : length xs % 14 ≡ 13
      → made g false (length xs + 1) (history_after (history_at g xs q) (encode_frame (history_at g xs q) f g.coefficients).samples 14) no_frame
      (passes_up_to g xs q + (encode_frame (history_at g xs q) f g.coefficients).passes)
      (loop_context g.looped q (history_at g xs q) (encode_frame (history_at g xs q) f g.coefficients) (loop_context_at g xs q))
      (store (start_shape g) q (encode_frame (history_at g xs q) f g.coefficients).bytes (history_at g xs q) (image_after g xs false ++ rest))
      ≡ made g false (length ys) (history_at g ys (length ys / 14)) (frame_at ys (length ys / 14)) (passes_up_to g ys (length ys / 14)) (loop_context_at g ys (length ys / 14)) (image_after g ys false ++ rest)
  fills r =
      let next : suc q ≡ length ys / 14 = omega (arith, longer) in
      let en : encode_frame (history_at g xs q) f g.coefficients ≡ encoded_at g ys q =
      ap₂ (λ (h : History) (a : List ℤ). encode_frame h a g.coefficients) before (frame-snoc xs x) ∙ encoded-is g ys q in
      let eight : (encoded_at g ys q).bytes ≡ take 8 (encoded_at g ys q).bytes = sym (take_all 8 (encoded_at g ys q).bytes (omega (arith, encoded-length g ys q))) in
      let w = full-frame g.total (length xs) lt r in
      made-same g false longer
      (ap₂ (λ (h : History) (c : EncodedFrame). history_after h c.samples 14) before en ∙ history-next g ys q ∙ ap (history_at g ys) next)
      (frame-none ys (length ys / 14) (omega (arith, longer)))
      (ap₂ (λ (a : ℕ) (c : EncodedFrame). a + c.passes) (sym (passes-stable g xs (x ∷ []) q (omega arith))) en ∙ passes-next g ys q ∙ ap (passes_up_to g ys) next)
      (ap₂ (λ (h : History) (c : EncodedFrame). loop_context g.looped q h c (loop_context_at g xs q)) before en
      ∙ ap (loop_context g.looped q (history_at g ys q) (encoded_at g ys q)) (sym (loop-stable g xs (x ∷ []) q (omega arith)))
      ∙ loop-next g ys q ∙ ap (loop_context_at g ys) next)
      (ap₂ (λ (c : EncodedFrame) (h : History). store (start_shape g) q c.bytes h (image_after g xs false ++ rest)) en before
      ∙ ap₂ (λ (b l : List ℕ). store (start_shape g) q b (history_at g ys q) (l ++ rest)) eight image-before
      ∙ built-store g F no_mark none refl (entry-last g xs false) ys rest q 8 w.0 (omega arith) (omega arith) w.1 (inl refl)
      ∙ ap₂ (λ (k : ℕ) (l : List ℕ). built g no_mark l ys k ++ rest) next none-still
      ∙ ap (λ (l : List ℕ). l ++ rest) (sym (image-built g ys false)))

  leaves : length xs % 14 ≢ 13
      → made g false (length xs + 1) (history_at g xs q) f (passes_up_to g xs q) (loop_context_at g xs q) (image_after g xs false ++ rest)
      ≡ made g false (length ys) (history_at g ys (length ys / 14)) (frame_at ys (length ys / 14)) (passes_up_to g ys (length ys / 14)) (loop_context_at g ys (length ys / 14)) (image_after g ys false ++ rest)
  leaves r =
      let same : q ≡ length ys / 14 = omega (arith, longer) in
      made-same g false longer
      (before ∙ ap (history_at g ys) same)
      (frame-snoc xs x ∙ ap (frame_at ys) same)
      (sym (passes-stable g xs (x ∷ []) q (omega arith)) ∙ ap (passes_up_to g ys) same)
      (sym (loop-stable g xs (x ∷ []) q (omega arith)) ∙ ap (loop_context_at g ys) same)
      (ap (λ (l : List ℕ). l ++ rest) (image-before ∙ ap₂ (λ (k : ℕ) (l : List ℕ). built g no_mark l ys k) same none-still ∙ sym (image-built g ys false)))

  push-follows : push (left_after g rest xs false) x ≡ left_after g rest ys false
  unfolding push left_after state_after store image_after passes_up_to context_at bodies encoded_at history_at
  push-follows = go (eqb (length xs % 14) 13) refl
    where
      go : (t : Bool) → eqb (length xs % 14) 13 ≡ t
          → cond t
          (made g false (length xs + 1) (history_after (history_at g xs (length xs / 14))
          (encode_frame (history_at g xs (length xs / 14)) (set (frame_at xs (length xs / 14)) (length xs % 14) x) g.coefficients).samples 14) no_frame
          (passes_up_to g xs (length xs / 14) + (encode_frame (history_at g xs (length xs / 14)) (set (frame_at xs (length xs / 14)) (length xs % 14) x) g.coefficients).passes)
          (loop_context g.looped (length xs / 14) (history_at g xs (length xs / 14)) (encode_frame (history_at g xs (length xs / 14)) (set (frame_at xs (length xs / 14)) (length xs % 14) x) g.coefficients)
          (loop_context_at g xs (length xs / 14)))
          (store (start_shape g) (length xs / 14) (encode_frame (history_at g xs (length xs / 14)) (set (frame_at xs (length xs / 14)) (length xs % 14) x) g.coefficients).bytes
          (history_at g xs (length xs / 14)) (image_after g xs false ++ rest)))
          (made g false (length xs + 1) (history_at g xs (length xs / 14)) (set (frame_at xs (length xs / 14)) (length xs % 14) x) (passes_up_to g xs (length xs / 14)) (loop_context_at g xs (length xs / 14)) (image_after g xs false ++ rest))
          ≡ made g false (length (xs ++ (x ∷ []))) (history_at g (xs ++ (x ∷ [])) (length (xs ++ (x ∷ [])) / 14)) (frame_at (xs ++ (x ∷ [])) (length (xs ++ (x ∷ [])) / 14))
          (passes_up_to g (xs ++ (x ∷ [])) (length (xs ++ (x ∷ [])) / 14)) (loop_context_at g (xs ++ (x ∷ [])) (length (xs ++ (x ∷ [])) / 14)) (image_after g (xs ++ (x ∷ [])) false ++ rest)
      go true e = fills (eqb-true (length xs % 14) 13 e)
      go false e = leaves (eqb-false (length xs % 14) 13 e)

-- ---- a piece more

pub piece-follows : (g : Start) → Fine g → (rest : List ℕ) (xs p : List ℤ) → length xs + length p ≤ g.total → feed_all (left_after g rest xs false) p ≡ left_after g rest (xs ++ p) false
piece-follows g F rest xs [] h = ap (λ (l : List ℤ). left_after g rest l false) (sym (append-nil xs))
piece-follows g F rest xs (x ∷ p) h =
    ap (λ (s : Left). foldl push s p) (push-follows g F rest xs x (omega arith))
    ∙ piece-follows g F rest (xs ++ (x ∷ [])) p (simp length-append (omega arith))
    ∙ ap (λ (l : List ℤ). left_after g rest l false) (append_snoc xs x p)

-- ---- the end

module _ (g : Start) (F : Fine g) (rest : List ℕ) (xs : List ℤ) (full : length xs ≡ g.total) where
  abbrev r : ℕ
  r = length xs / 14

  abbrev m : ℕ
  m = length xs % 14

  abbrev padded : List ℤ
  padded = sets (frame_at xs (length xs / 14)) (length xs % 14) (replicate (14 - length xs % 14) (pos 0))

  abbrev k : ℕ
  k = 1 + (length xs % 14 + 1) / 2

  final : Left
  final = made g true (length xs) (history_after (history_at g xs r) (encoded_at g xs r).samples m) no_frame (passes_up_to g xs (frame_count g.total))
      (loop_context_at g xs (frame_count g.total)) (image_after g xs true ++ rest)

  entry_closed : loop_bytes g.looped (loop_context_at g xs (frame_count g.total)) ≡ loop_entry g xs true
  unfolding loop_entry
  entry_closed = refl

  -- the entry that a loop adds and the mark, with all frames encoded
  end-built : (c : FrameContext) → c ≡ loop_context_at g xs (frame_count g.total)
      → ended (start_shape g) g.looped c (built g no_mark (loop_entry g xs false) xs (frame_count g.total) ++ rest) ≡ image_after g xs true ++ rest
  unfolding ended
  end-built c e =
      let v = loop_bytes g.looped c in
      ap (λ (l : List ℕ). sets l 0 mark) (built-loop g F no_mark refl (loop_entry g xs false) v (entry-last g xs false) (loop-length g.looped c) xs (frame_count g.total) rest)
      ∙ built-mark g v xs (frame_count g.total) rest
      ∙ ap (λ (l : List ℕ). built g mark l xs (frame_count g.total) ++ rest) (ap (loop_bytes g.looped) e ∙ entry_closed)
      ∙ ap (λ (l : List ℕ). l ++ rest) (sym (image-built g xs true))

  whole-end : m ≡ 0 → made g true (length xs) (history_at g xs r) no_frame (passes_up_to g xs r) (loop_context_at g xs r) (ended (start_shape g) g.looped (loop_context_at g xs r) (image_after g xs false ++ rest)) ≡ final
  unfolding frame_count final
  whole-end z =
      let next : r ≡ (g.total + 13) / 14 = omega arith in
      made-same g true refl
      (sym (history-start (history_at g xs r) (encoded_at g xs r).samples) ∙ ap (history_after (history_at g xs r) (encoded_at g xs r).samples) (sym z))
      refl
      (ap (passes_up_to g xs) next)
      (ap (loop_context_at g xs) next)
      (ap (λ (l : List ℕ). ended (start_shape g) g.looped (loop_context_at g xs r) (l ++ rest)) (image-built g xs false ∙ ap (built g no_mark (loop_entry g xs false) xs) next)
      ∙ end-built (loop_context_at g xs r) (ap (loop_context_at g xs) next))

  short-end : m ≢ 0
      → made g true (length xs) (history_after (history_at g xs r) (encode_frame (history_at g xs r) padded g.coefficients).samples m) no_frame
      (passes_up_to g xs r + (encode_frame (history_at g xs r) padded g.coefficients).passes)
      (loop_context g.looped r (history_at g xs r) (encode_frame (history_at g xs r) padded g.coefficients) (loop_context_at g xs r))
      (ended (start_shape g) g.looped (loop_context g.looped r (history_at g xs r) (encode_frame (history_at g xs r) padded g.coefficients) (loop_context_at g xs r))
      (store (start_shape g) r (take k (encode_frame (history_at g xs r) padded g.coefficients).bytes) (history_at g xs r) (image_after g xs false ++ rest)))
      ≡ final
  unfolding frame_count body_bytes last_frame_samples final
  short-end z =
      let next : suc r ≡ (g.total + 13) / 14 = omega arith in
      let at : EncodedFrame → FrameContext = λ c. loop_context g.looped r (history_at g xs r) c (loop_context_at g xs r) in
      let known : at (encoded_at g xs r) ≡ loop_context_at g xs ((g.total + 13) / 14) = loop-next g xs r ∙ ap (loop_context_at g xs) next in
      let en : encode_frame (history_at g xs r) padded g.coefficients ≡ encoded_at g xs r =
      ap (λ (a : List ℤ). encode_frame (history_at g xs r) a g.coefficients) (frame-pad xs) ∙ encoded-is g xs r in
      made-same g true refl
      (ap (λ (c : EncodedFrame). history_after (history_at g xs r) c.samples m) en)
      refl
      (ap (λ (c : EncodedFrame). passes_up_to g xs r + c.passes) en ∙ passes-next g xs r ∙ ap (passes_up_to g xs) next)
      (ap at en ∙ known)
      (ap₂ (λ (c : EncodedFrame) (l : List ℕ). ended (start_shape g) g.looped (at c) (store (start_shape g) r (take k c.bytes) (history_at g xs r) (l ++ rest))) en (image-built g xs false)
      ∙ ap (ended (start_shape g) g.looped (at (encoded_at g xs r)))
      (built-store g F no_mark (loop_entry g xs false) refl (entry-last g xs false) xs rest r k (omega arith) (omega arith) (omega arith) (omega arith) (inr (omega arith))
      ∙ ap (λ (a : ℕ). built g no_mark (loop_entry g xs false) xs a ++ rest) next)
      ∙ end-built (at (encoded_at g xs r)) known)

  pub end-follows : finish (left_after g rest xs false) ≡ left_after g rest xs true
  unfolding finish left_after state_after final store image_after passes_up_to context_at bodies encoded_at history_at
  end-follows = go (eqb (length xs % 14) 0) refl
    where
      go : (t : Bool) → eqb (length xs % 14) 0 ≡ t
          → cond t (made g true (length xs) (history_at g xs (length xs / 14)) no_frame (passes_up_to g xs (length xs / 14)) (loop_context_at g xs (length xs / 14))
          (ended (start_shape g) g.looped (loop_context_at g xs (length xs / 14)) (image_after g xs false ++ rest)))
          (made g true (length xs) (history_after (history_at g xs (length xs / 14))
          (encode_frame (history_at g xs (length xs / 14)) (sets (frame_at xs (length xs / 14)) (length xs % 14) (replicate (14 - length xs % 14) (pos 0))) g.coefficients).samples
          (length xs % 14)) no_frame
          (passes_up_to g xs (length xs / 14) + (encode_frame (history_at g xs (length xs / 14)) (sets (frame_at xs (length xs / 14)) (length xs % 14) (replicate (14 - length xs % 14) (pos 0)))
          g.coefficients).passes)
          (loop_context g.looped (length xs / 14) (history_at g xs (length xs / 14))
          (encode_frame (history_at g xs (length xs / 14)) (sets (frame_at xs (length xs / 14)) (length xs % 14) (replicate (14 - length xs % 14) (pos 0))) g.coefficients)
          (loop_context_at g xs (length xs / 14)))
          (ended (start_shape g) g.looped (loop_context g.looped (length xs / 14) (history_at g xs (length xs / 14))
          (encode_frame (history_at g xs (length xs / 14)) (sets (frame_at xs (length xs / 14)) (length xs % 14) (replicate (14 - length xs % 14) (pos 0))) g.coefficients)
          (loop_context_at g xs (length xs / 14)))
          (store (start_shape g) (length xs / 14) (take (1 + (length xs % 14 + 1) / 2)
          (encode_frame (history_at g xs (length xs / 14)) (sets (frame_at xs (length xs / 14)) (length xs % 14) (replicate (14 - length xs % 14) (pos 0))) g.coefficients).bytes)
          (history_at g xs (length xs / 14)) (image_after g xs false ++ rest))))
          ≡ final
      go true e = whole-end (eqb-true (length xs % 14) 0 e)
      go false e = short-end (eqb-false (length xs % 14) 0 e)
