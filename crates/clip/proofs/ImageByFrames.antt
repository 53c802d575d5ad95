-- X's image with k frames encoded, and one frame more.
use mathlib.Core.Path.{◌≡◌, refl, sym, ap, ap₂, ◌∙◌, fun_ext}
use mathlib.Core.Logic.{◌≢◌, ◌⊎◌, ⊎_elim}
use mathlib.Core.List.{List, ◌++◌, append_assoc, append-nil}
use mathlib.Core.Bool.{Bool, true, false, cond, ◌&&◌}
use Prim.Native.Nat.{ℕ, suc, ◌+◌, ◌-◌, ◌*◌, ◌/◌, ◌%◌, ◌≤◌, ◌<◌}
use native.Mathlib.Nat.{div-add-mod', mul-mod_left, mul-div_cancel}
use native.Mathlib.Omega.{arith}
use borrow.Author.Tests.{ltb-true, ltb-false, lt-ltb, le-ltb, eqb-true, eqb-false}
use lib.Dec.{ltb, eqb}
use lib.IntN.{ℤ}
use lib.ListN.{length, take, replicate, get_or, length-append, length-replicate}
use lib.Seq.{sets, take-append-le, take-append-add, take_all, length-take-le}
use Rattle.whole.proofs.Stores.{sets-part, sets-right-at, sets-left, fill, fill-set}
use Rattle.frame.specs.Frame.{coefficients_ok}
use Rattle.layout.specs.Sizes.{loop_count, block_count, body_bytes, image_size, last_frame_samples, entry_place}
use Rattle.whole.specs.Frames.{frame_count}
use Rattle.layout.specs.Fields.{mark, no_mark}
use Rattle.clip.specs.Image.{start_shape, head_bytes, context_bytes, no_context, table_bytes, coefficient_bytes}
use Rattle.layout.specs.Sizes.{frame_place, context_place}
use Rattle.clip.specs.Encoding.{store, context_within, loop_context}
use Rattle.layout.specs.Limits.{Limits, loop_ok}
use Rattle.layout.specs.declared.Shape.{Shape}
use Rattle.block.specs.declared.FrameContext.{FrameContext}
use Rattle.block.specs.Context.{new_context}
use Rattle.clip.specs.declared.starting.Start.{Start}
use Rattle.clip.specs.Runs.{history_at, encoded_at, bodies, context_at, loop_context_at, frames_done, loop_entry, image_after}
use Rattle.layout.proofs.SizeLaws.{first_block}
use Rattle.clip.proofs.FieldRuns.{head-length, loop-length}
use Rattle.clip.proofs.Storing.{first_byte}
use Rattle.clip.proofs.Tables.{table-length, table-set}
use Rattle.clip.proofs.LaterSamples.{bodies-stable, context-stable, encoded-length, bodies-length, context-length}

-- what an accepted start has
pub record Fine (g : Start) : Type 0 where
  pub limits : Limits (start_shape g)
  pub some : g.rate ≢ 0
  pub sixteen : length g.coefficients ≡ 16
  pub within : coefficients_ok g.coefficients ≡ true
  pub looping : loop_ok g.looped g.total ≡ true

abbrev pub headed : Start → List ℕ → List ℕ
headed g first = head_bytes first g

-- the contents, and the entry that a loop adds
abbrev pub listed : Start → List ℕ → List ℤ → ℕ → List ℕ
listed g last xs k = table_bytes (context_at g xs k) (start_shape g) 0 (block_count (start_shape g)) ++ last

abbrev pub filled : Start → List ℤ → ℕ → List ℕ
filled g xs k = take (body_bytes g.total) (bodies g xs k ++ replicate (body_bytes g.total) 0)

unfoldable pub built : Start → List ℕ → List ℕ → List ℤ → ℕ → List ℕ
built g first last xs k = headed g first ++ (listed g last xs k ++ filled g xs k)

pub image-built : (g : Start) (xs : List ℤ) (c : Bool) → image_after g xs c ≡ built g (cond c mark no_mark) (loop_entry g xs c) xs (frames_done g xs c)
unfolding image_after built context_at bodies encoded_at history_at
image-built g xs c =
    let k = frames_done g xs c in
    ap (λ (l : List ℕ). headed g (cond c mark no_mark) ++ l)
    (sym (append_assoc (table_bytes (context_at g xs k) (start_shape g) 0 (block_count (start_shape g))) (loop_entry g xs c) (filled g xs k)))

pub built-stable : (g : Start) (first last : List ℕ) (xs ys : List ℤ) (k : ℕ) → 14 * k ≤ length xs → built g first last (xs ++ ys) k ≡ built g first last xs k
unfolding built
built-stable g first last xs ys k h =
    ap₂ (λ (f : ℕ → List ℕ) (b : List ℕ). headed g first ++ ((table_bytes f (start_shape g) 0 (block_count (start_shape g)) ++ last) ++ take (body_bytes g.total) (b ++ replicate (body_bytes g.total) 0)))
    (fun_ext (λ j. context-stable g xs ys k j h))
    (bodies-stable g xs ys k h)

pub filled-length : (g : Start) (xs : List ℤ) (k : ℕ) → length (filled g xs k) ≡ body_bytes g.total
filled-length g xs k =
    length-take-le (body_bytes g.total) (bodies g xs k ++ replicate (body_bytes g.total) 0) (simp (length-append, length-replicate) (omega arith))

-- the bytes of the entry that a loop adds
abbrev pub Last : Start → List ℕ → Type 0
Last g last = length last ≡ 16 * loop_count g.looped

pub entry-last : (g : Start) (xs : List ℤ) (c : Bool) → Last g (loop_entry g xs c)
unfolding loop_entry
entry-last g xs true = loop-length g.looped (loop_context_at g xs (frames_done g xs true))
entry-last g xs false = length-replicate (16 * loop_count g.looped) 0

pub contents-length : (g : Start) (xs : List ℤ) (k : ℕ) → length (table_bytes (context_at g xs k) (start_shape g) 0 (block_count (start_shape g))) ≡ 16 * block_count (start_shape g)
contents-length g xs k = table-length (context_at g xs k) (context-length g xs k) (start_shape g) 0 (block_count (start_shape g))

pub listed-length : (g : Start) (last : List ℕ) → Last g last → (xs : List ℤ) (k : ℕ) → length (listed g last xs k) ≡ 16 * (block_count (start_shape g) + (start_shape g).extra)
listed-length g last h xs k =
    length-append (table_bytes (context_at g xs k) (start_shape g) 0 (block_count (start_shape g))) last
    ∙ omega (arith, contents-length g xs k)

pub headed-length : (g : Start) → Fine g → (first : List ℕ) → length first ≡ 4 → length (headed g first) ≡ 56
headed-length g F first h = head-length first g h F.sixteen

pub built-length : (g : Start) → Fine g → (first : List ℕ) → length first ≡ 4 → (last : List ℕ) → Last g last → (xs : List ℤ) (k : ℕ) → length (built g first last xs k) ≡ image_size (start_shape g)
unfolding built image_size block_count body_bytes frame_count last_frame_samples
built-length g F first h last e xs k =
    length-append (headed g first) (listed g last xs k ++ filled g xs k)
    ∙ omega (arith, length-append (listed g last xs k) (filled g xs k), headed-length g F first h, listed-length g last e xs k, filled-length g xs k)

pub regroup : (a b c d : List ℕ) → (a ++ (b ++ c)) ++ d ≡ a ++ (b ++ (c ++ d))
regroup a b c d = simp append_assoc

-- the mark
pub built-mark : (g : Start) (last : List ℕ) (xs : List ℤ) (k : ℕ) (rest : List ℕ) → sets (built g no_mark last xs k ++ rest) 0 mark ≡ built g mark last xs k ++ rest
unfolding built head_bytes coefficient_bytes block_count frame_count
built-mark g last xs k rest = refl

-- the entry that a loop adds
module _ (g : Start) (F : Fine g) (first : List ℕ) (four : length first ≡ 4) (last v : List ℕ) (was : Last g last) (is : Last g v) (xs : List ℤ) (k : ℕ) (rest : List ℕ) where
  abbrev before : List ℕ
  before = headed g first ++ table_bytes (context_at g xs k) (start_shape g) 0 (block_count (start_shape g))

  abbrev follows : List ℕ
  follows = filled g xs k ++ rest

  around : (l : List ℕ) → built g first l xs k ++ rest ≡ before ++ (l ++ follows)
  unfolding built
  around l = simp append_assoc

  pub built-loop : sets (built g first last xs k ++ rest) (entry_place (block_count (start_shape g))) v ≡ built g first v xs k ++ rest
  built-loop =
      ap (λ (l : List ℕ). sets l (entry_place (block_count (start_shape g))) v) (around last)
      ∙ sets-part before (entry_place (block_count (start_shape g))) v last follows
      (length-append (headed g first) (table_bytes (context_at g xs k) (start_shape g) 0 (block_count (start_shape g))) ∙ omega (arith, headed-length g F first four, contents-length g xs k))
      (was ∙ sym is)
      ∙ sym (around v)

-- ---- a store among the bodies, and one among the contexts

body-store : (hd tb bd rest v : List ℕ) (s : Shape) (q : ℕ) → length hd ≡ 56 → length tb ≡ 16 * (block_count s + s.extra) → 8 * q + length v ≤ length bd
    → sets (hd ++ (tb ++ (bd ++ rest))) (frame_place s q) v ≡ hd ++ (tb ++ (sets bd (8 * q) v ++ rest))
body-store hd tb bd rest v s q eh et h =
    let k = block_count s + s.extra in
    sets-right-at hd (tb ++ (bd ++ rest)) (frame_place s q) (16 * k + 8 * q) v (omega arith)
    ∙ ap (λ (l : List ℕ). hd ++ l)
    (sets-right-at tb (bd ++ rest) (16 * k + 8 * q) (8 * q) v (omega arith)
    ∙ ap (λ (l : List ℕ). tb ++ l) (sets-left bd rest (8 * q) v h))

context-store : (hd r : List ℕ) (f g : ℕ → List ℕ) → ((i : ℕ) → length (f i) ≡ 6) → (t : ℕ) (v : List ℕ) → length v ≡ 6 → g t ≡ v
    → ((i : ℕ) → i ≢ t → f i ≡ g i) → (s : Shape) (kk : ℕ) → t < kk → length hd ≡ 56
    → sets (hd ++ (table_bytes f s 0 kk ++ r)) (context_place t) v ≡ hd ++ (table_bytes g s 0 kk ++ r)
context-store hd r f g hl t v lv gv same s kk lt eh =
    sets-right-at hd (table_bytes f s 0 kk ++ r) (context_place t) (16 * t + 8) v (omega arith)
    ∙ ap (λ (l : List ℕ). hd ++ l)
    (sets-left (table_bytes f s 0 kk) r (16 * t + 8) v (omega (arith, table-length f hl s 0 kk))
    ∙ ap (λ (l : List ℕ). l ++ r) (table-set f g hl t v lv gv same s 0 kk t lt (omega arith)))

ltb_next : (a q : ℕ) → a ≢ q → ltb a q ≡ ltb a (suc q)
ltb_next a q h = go (ltb a q) refl
  where
    go : (t : Bool) → ltb a q ≡ t → t ≡ ltb a (suc q)
    go true e = sym (lt-ltb a (suc q) (omega (arith, ltb-true a q e)))
    go false e = sym (le-ltb a (suc q) (omega (arith, ltb-false a q e)))

module _ (g : Start) (xs : List ℤ) (q j : ℕ) where
  abbrev of : ℕ → List ℕ
  of i = context_bytes (get_or (encoded_at g xs i).bytes 0 0) (history_at g xs i)

  -- a block that frame q is not the first of, and one that it is
  context-next : j * (g.block / 8) ≢ q → context_at g xs q j ≡ context_at g xs (suc q) j
  unfolding context_at encoded_at history_at
  context-next ne = ap (λ (t : Bool). cond t (of (j * (g.block / 8))) no_context) (ltb_next (j * (g.block / 8)) q ne)

  context-here : j * (g.block / 8) ≡ q → context_at g xs (suc q) j ≡ of q
  unfolding context_at encoded_at history_at
  context-here e =
      ap (λ (i : ℕ). cond (ltb i (suc q)) (of i) no_context) e ∙ ap (λ (t : Bool). cond t (of q) no_context) (lt-ltb q (suc q) (omega arith))

-- frame q more, and the context at the loop start
pub loop-next : (g : Start) (xs : List ℤ) (q : ℕ) → loop_context g.looped q (history_at g xs q) (encoded_at g xs q) (loop_context_at g xs q) ≡ loop_context_at g xs (suc q)
unfolding loop_context loop_context_at encoded_at history_at
loop-next g xs q = go g.looped.present (eqb (g.looped.start / 14) q) refl
  where
    i : ℕ
    i = g.looped.start / 14

    at : ℕ → FrameContext
    at j = context_within (history_at g xs j) (encoded_at g xs j) (g.looped.start % 14)

    go : (p t : Bool) → eqb (g.looped.start / 14) q ≡ t
        → cond (p && t) (at q) (cond (p && ltb (g.looped.start / 14) q) (at (g.looped.start / 14)) new_context)
        ≡ cond (p && ltb (g.looped.start / 14) (suc q)) (at (g.looped.start / 14)) new_context
    go false t e = refl
    go true true e =
        let w : g.looped.start / 14 ≡ q = eqb-true (g.looped.start / 14) q e in
        ap at (sym w) ∙ ap (λ (b : Bool). cond b (at (g.looped.start / 14)) new_context) (sym (lt-ltb (g.looped.start / 14) (suc q) (omega arith)))
    go true false e =
        ap (λ (b : Bool). cond b (at (g.looped.start / 14)) new_context) (ltb_next (g.looped.start / 14) q (eqb-false (g.looped.start / 14) q e))

-- ---- the bodies with one frame more, of which k bytes are stored: all eight, or as many as there is room for

module _ (g : Start) (xs : List ℤ) (t q k : ℕ) (one : 1 ≤ k) (most : k ≤ 8) (room : 8 * q + k ≤ t) where
  stored-length : length (take k (encoded_at g xs q).bytes) ≡ k
  stored-length = length-take-le k (encoded_at g xs q).bytes (omega (arith, encoded-length g xs q))

  with-length : length (bodies g xs q ++ take k (encoded_at g xs q).bytes) ≡ 8 * q + k
  with-length = length-append (bodies g xs q) (take k (encoded_at g xs q).bytes) ∙ omega (arith, bodies-length g xs q, stored-length)

  more-eight : k ≡ 8
      → take t (bodies g xs (suc q) ++ replicate t 0) ≡ (bodies g xs q ++ take k (encoded_at g xs q).bytes) ++ replicate (t - length (bodies g xs q ++ take k (encoded_at g xs q).bytes)) 0
  unfolding bodies encoded_at history_at
  more-eight e =
      let w : (encoded_at g xs q).bytes ≡ take k (encoded_at g xs q).bytes = sym (take_all k (encoded_at g xs q).bytes (omega (arith, encoded-length g xs q))) in
      ap (λ (c : List ℕ). take t ((bodies g xs q ++ c) ++ replicate t 0)) w
      ∙ fill t (bodies g xs q ++ take k (encoded_at g xs q).bytes) 0 (omega (arith, with-length))

  more-last : 8 * q + k ≡ t
      → take t (bodies g xs (suc q) ++ replicate t 0) ≡ (bodies g xs q ++ take k (encoded_at g xs q).bytes) ++ replicate (t - length (bodies g xs q ++ take k (encoded_at g xs q).bytes)) 0
  unfolding bodies encoded_at history_at
  more-last e =
      let c : List ℕ = (encoded_at g xs q).bytes in
      let z : t - length (bodies g xs q ++ take k c) ≡ 0 = omega (arith, with-length) in
      let w : t ≡ length (bodies g xs q) + k = omega (arith, bodies-length g xs q) in
      take-append-le t (bodies g xs q ++ c) (replicate t 0) (simp length-append (omega (arith, bodies-length g xs q, encoded-length g xs q)))
      ∙ ap (λ (a : ℕ). take a (bodies g xs q ++ c)) w
      ∙ take-append-add (bodies g xs q) c k
      ∙ sym (append-nil (bodies g xs q ++ take k c))
      ∙ ap (λ (a : ℕ). (bodies g xs q ++ take k c) ++ replicate a 0) (sym z)

  more : (k ≡ 8) ⊎ (8 * q + k ≡ t) → sets (take t (bodies g xs q ++ replicate t 0)) (8 * q) (take k (encoded_at g xs q).bytes) ≡ take t (bodies g xs (suc q) ++ replicate t 0)
  more c =
      ap (λ (l : List ℕ). sets l (8 * q) (take k (encoded_at g xs q).bytes)) (fill t (bodies g xs q) 0 (omega (arith, bodies-length g xs q)))
      ∙ ap (λ (a : ℕ). sets (bodies g xs q ++ replicate (t - length (bodies g xs q)) 0) a (take k (encoded_at g xs q).bytes)) (sym (bodies-length g xs q))
      ∙ fill-set t (bodies g xs q) (take k (encoded_at g xs q).bytes) 0 (omega (arith, bodies-length g xs q, stored-length))
      ∙ sym (⊎_elim more-eight more-last c)

-- storing frame q takes the image with q frames to that with one more
module _ (g : Start) (F : Fine g) (first last : List ℕ) (four : length first ≡ 4) (sixteen : Last g last) (xs : List ℤ) (rest : List ℕ) (q k : ℕ) (lt : q < frame_count g.total) (one : 1 ≤ k) (most : k ≤ 8)
    (room : 8 * q + k ≤ body_bytes g.total) (c : (k ≡ 8) ⊎ (8 * q + k ≡ body_bytes g.total)) where
  abbrev hd : List ℕ
  hd = headed g first

  abbrev table : ℕ → List ℕ
  table i = table_bytes (context_at g xs i) (start_shape g) 0 (block_count (start_shape g))

  abbrev per : ℕ
  per = g.block / 8

  abbrev v : List ℕ
  v = take k (encoded_at g xs q).bytes

  abbrev image : List ℕ
  image = (hd ++ (listed g last xs q ++ filled g xs q)) ++ rest

  one-body : sets image (frame_place (start_shape g) q) v ≡ hd ++ (listed g last xs q ++ (filled g xs (suc q) ++ rest))
  one-body =
      let bl : 8 * q + length v ≤ length (filled g xs q) = omega (arith, filled-length g xs q, stored-length g xs (body_bytes g.total) q k one most room) in
      ap (λ (l : List ℕ). sets l (frame_place (start_shape g) q) v) (regroup hd (listed g last xs q) (filled g xs q) rest)
      ∙ body-store hd (listed g last xs q) (filled g xs q) rest v (start_shape g) q (headed-length g F first four) (listed-length g last sixteen xs q) bl
      ∙ ap (λ (l : List ℕ). hd ++ (listed g last xs q ++ (l ++ rest))) (more g xs (body_bytes g.total) q k one most room c)

  some-per : 0 < per
  some-per = omega (arith, F.limits.wide)

  abbrev context : List ℕ
  context = context_bytes (get_or v 0 0) (history_at g xs q)

  with-context : q % per ≡ 0 → sets (sets image (frame_place (start_shape g) q) v) (context_place (q / per)) context ≡ (hd ++ (listed g last xs (suc q) ++ filled g xs (suc q))) ++ rest
  with-context z =
      let w : q / per * per ≡ q = omega (arith, div-add-mod' q per, z) in
      ap (λ (l : List ℕ). sets l (context_place (q / per)) context) (one-body ∙ ap (λ (l : List ℕ). hd ++ l) (append_assoc (table q) last (filled g xs (suc q) ++ rest)))
      ∙ context-store hd (last ++ (filled g xs (suc q) ++ rest)) (context_at g xs q) (context_at g xs (suc q)) (context-length g xs q) (q / per) context refl
      (context-here g xs q (q / per) w ∙ ap (λ (a : ℕ). context_bytes a (history_at g xs q)) (sym (first_byte k (encoded_at g xs q).bytes one)))
      (λ i ne. context-next g xs q i (λ e. ne (sym (mul-div_cancel i some-per) ∙ ap (λ (a : ℕ). a / per) e)))
      (start_shape g) (block_count (start_shape g)) (first_block (start_shape g) q F.limits lt z) (headed-length g F first four)
      ∙ ap (λ (l : List ℕ). hd ++ l) (sym (append_assoc (table (suc q)) last (filled g xs (suc q) ++ rest)))
      ∙ sym (regroup hd (listed g last xs (suc q)) (filled g xs (suc q)) rest)

  without-context : q % per ≢ 0 → sets image (frame_place (start_shape g) q) v ≡ (hd ++ (listed g last xs (suc q) ++ filled g xs (suc q))) ++ rest
  without-context z =
      one-body
      ∙ ap (λ (f : ℕ → List ℕ). hd ++ ((table_bytes f (start_shape g) 0 (block_count (start_shape g)) ++ last) ++ (filled g xs (suc q) ++ rest)))
      (fun_ext (λ i. context-next g xs q i (λ e. z (ap (λ (a : ℕ). a % per) (sym e) ∙ mul-mod_left i per))))
      ∙ sym (regroup hd (listed g last xs (suc q)) (filled g xs (suc q)) rest)

  pub built-store : store (start_shape g) q v (history_at g xs q) (built g first last xs q ++ rest) ≡ built g first last xs (suc q) ++ rest
  unfolding built store
  built-store = go (eqb (q % per) 0) refl
    where
      go : (t : Bool) → eqb (q % (g.block / 8)) 0 ≡ t
          → cond t (sets (sets ((headed g first ++ (listed g last xs q ++ filled g xs q)) ++ rest) (frame_place (start_shape g) q) (take k (encoded_at g xs q).bytes)) (context_place (q / (g.block / 8)))
          (context_bytes (get_or (take k (encoded_at g xs q).bytes) 0 0) (history_at g xs q)))
          (sets ((headed g first ++ (listed g last xs q ++ filled g xs q)) ++ rest) (frame_place (start_shape g) q) (take k (encoded_at g xs q).bytes))
          ≡ (headed g first ++ (listed g last xs (suc q) ++ filled g xs (suc q))) ++ rest
      go true e = with-context (eqb-true (q % (g.block / 8)) 0 e)
      go false e = without-context (eqb-false (q % (g.block / 8)) 0 e)
