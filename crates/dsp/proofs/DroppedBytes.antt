-- Import reads no byte past the last body: whatever stands there, it does the same.
use mathlib.Core.Bool.{Bool, true, cond, ◌&&◌}
use mathlib.Core.List.{List, [], ◌∷◌, ◌++◌}
use mathlib.Core.Path.{◌≡◌, refl, sym, ap, ap₂, ◌∙◌}
use Prim.Native.Nat.{ℕ, zero, suc, ◌+◌, ◌*◌, ◌/◌, ◌%◌, ◌≤◌, ◌<◌}
use native.Mathlib.Omega.{arith}
use lib.Dec.{eqb}
use lib.IntN.{ℤ}
use lib.ListN.{length, get_or, take, drop, replicate, length-append, length-drop}
use lib.Seq.{length-take-le, take_at, get_or-take, get_or-drop}
use mir.Syntax.{w16}
use mir.Val.{to_z}
use Rattle.whole.specs.declared.History.{History}
use Rattle.block.specs.Address.{address_to_sample}
use Rattle.block.specs.Context.{history_with, context_with}
use Rattle.block.specs.Frame.{Playing}
use Rattle.block.specs.Play.{play}
use Rattle.block.specs.Refusals.{lowest_pair}
use Rattle.layout.specs.Fields.{at16, at32, mark}
use Rattle.layout.specs.Sizes.{no_loop, block_count, body_bytes, cut_down, image_size}
use Rattle.layout.proofs.SizeLaws.{block-place}
use Rattle.clip.specs.declared.starting.Start.{Start}
use Rattle.clip.specs.Image.{start_shape, head_bytes, context_bytes, loop_bytes}
use Rattle.clip.proofs.Tables.{table_below}
use Rattle.image.specs.Reading.{signed_at, coefficients_up_to, coefficients_in}
use Rattle.image.specs.Opening.{holds}
use Rattle.image.proofs.Places.{start-body}
use Rattle.dsp.specs.File.{nibble_count, file_bytes, total_of, flag_of, start_address_of, loop_of, coefficients_of, context_at, first_of, bodies_of}
use Rattle.dsp.specs.Import.{file_answer, clip_of, history_before, context_before, laid_out, imported, imported_bytes, import_answer, import_file}
use Rattle.dsp.proofs.AcceptedFile.{LoopFields, NoLoopFields, FileFits, file-accepts, clip-limits}
use Rattle.dsp.proofs.BlockLengths.{frame-body}
use Rattle.dsp.proofs.BytesAgain.{part-within}
use Rattle.dsp.proofs.PlayedInParts.{play-part}

-- ---- fields of two lists whose first n bytes are the same

module _ (a b : List ℕ) (n : ℕ) (same : (i : ℕ) → i < n → get_or a i 0 ≡ get_or b i 0) where
  same16 : (i : ℕ) → i + 2 ≤ n → at16 a i ≡ at16 b i
  same16 i h = ap₂ (λ (x y : ℕ). x * 256 + y) (same i (omega arith)) (same (i + 1) (omega arith))

  same32 : (i : ℕ) → i + 4 ≤ n → at32 a i ≡ at32 b i
  same32 i h =
      let p = same i (omega arith) in
      let q = same (i + 1) (omega arith) in
      let r = same (i + 2) (omega arith) in
      let s = same (i + 3) (omega arith) in
      λ j. p j * 16777216 + q j * 65536 + r j * 256 + s j

  same-signed : (i : ℕ) → i + 2 ≤ n → signed_at a i ≡ signed_at b i
  unfolding signed_at
  same-signed i h = ap (to_z w16) (same16 i h)

  same-holds : (vs : List ℕ) (i : ℕ) → i + length vs ≤ n → holds a i vs ≡ holds b i vs
  same-holds [] i h = refl
  same-holds (v ∷ vs) i h = ap₂ (λ (x : ℕ) (t : Bool). eqb x v && t) (same i (omega arith)) (same-holds vs (suc i) (omega arith))

  same-context : (i : ℕ) → i + 6 ≤ n → context_at a i ≡ context_at b i
  unfolding context_at
  same-context i h =
      let e = same16 i (omega arith) in
      let p = same-signed (i + 2) (omega arith) in
      let q = same-signed (i + 4) (omega arith) in
      λ j. context_with (e j) (history_with (p j) (q j))

  same-coefficients : (k : ℕ) → 16 + 2 * k ≤ n → coefficients_up_to a k ≡ coefficients_up_to b k
  unfolding coefficients_up_to
  same-coefficients zero h = refl
  same-coefficients (suc k) h = ap₂ (λ (r : List ℤ) (z : ℤ). r ++ (z ∷ [])) (same-coefficients k (omega arith)) (same-signed (16 + 2 * k) (omega arith))

-- the frame of a sample's address begins within the bodies
address-body : (n a : ℕ) → 2 ≤ a % 16 → address_to_sample a < n → 8 * (a / 16) < body_bytes n
unfolding address_to_sample
address-body n a p h = let w = frame-body n (address_to_sample a) h in omega (arith, w, p)

-- ---- an accepted file, and another that has its header and its bodies

module _ (f k : List ℕ) (size : ℕ) (F : FileFits f size) (long : file_bytes (total_of f) ≤ length k) (same : take (file_bytes (total_of f)) k ≡ take (file_bytes (total_of f)) f) where
  abbrev t : ℕ
  t = body_bytes (total_of f)

  at_same : (i : ℕ) → i < file_bytes (total_of f) → get_or k i 0 ≡ get_or f i 0
  at_same i h = sym (get_or-take (file_bytes (total_of f)) k i 0 h) ∙ ap (λ (l : List ℕ). get_or l i 0) same ∙ get_or-take (file_bytes (total_of f)) f i 0 h

  -- the header
  head-same : (i : ℕ) → i < 96 → get_or k i 0 ≡ get_or f i 0
  unfolding file_bytes
  head-same i h = at_same i (omega arith)

  field16 : (i : ℕ) → i + 2 ≤ 96 → at16 k i ≡ at16 f i
  field16 = same16 k f 96 head-same

  field32 : (i : ℕ) → i + 4 ≤ 96 → at32 k i ≡ at32 f i
  field32 = same32 k f 96 head-same

  total-same : total_of k ≡ total_of f
  total-same = field32 0 (omega arith)

  coefficients-same : coefficients_of k ≡ coefficients_of f
  unfolding coefficients_of coefficients_in
  coefficients-same = same-coefficients (drop 12 k) (drop 12 f) 84 (λ i h. get_or-drop 12 k i 0 ∙ head-same (12 + i) (omega arith) ∙ sym (get_or-drop 12 f i 0)) 16 (omega arith)

  context-same : (i : ℕ) → i + 6 ≤ 96 → context_at k i ≡ context_at f i
  context-same = same-context k f 96 head-same

  loop-same : loop_of k ≡ loop_of f
  unfolding loop_of
  loop-same =
      let e = field16 12 (omega arith) in
      let p = field32 16 (omega arith) in
      let q = field32 20 (omega arith) in
      λ i. cond (eqb (e i) 1) (record { start = address_to_sample (p i); end = address_to_sample (q i) + 1; present = true }) no_loop

  clip-same : clip_of k size ≡ clip_of f size
  unfolding clip_of
  clip-same =
      let r = field32 8 (omega arith) in
      let g = field16 60 (omega arith) in
      let c = context-same 62 (omega arith) in
      λ i. record {
        total = total-same i;
        rate = r i;
        block = cut_down size;
        gain = g i;
        coefficients = coefficients-same i;
        history = (c i).last_samples;
        looped = loop-same i;
      }

  -- the bodies
  body_same : (i : ℕ) → i < t → get_or (bodies_of k) i 0 ≡ get_or (bodies_of f) i 0
  unfolding file_bytes
  body_same i h = get_or-drop 96 k i 0 ∙ at_same (96 + i) (omega arith) ∙ sym (get_or-drop 96 f i 0)

  bodies-same : take t (bodies_of k) ≡ take t (bodies_of f)
  unfolding file_bytes
  bodies-same = sym (part-within k (96 + t) 96 t (omega arith)) ∙ ap (λ (l : List ℕ). take t (drop 96 l)) same ∙ part-within f (96 + t) 96 t (omega arith)

  -- the history before a frame is played from them
  history-same : (q : ℕ) → 16 * q ≤ 2 * t → history_before k q ≡ history_before f q
  unfolding history_before file_bytes
  history-same q h =
      let n = F.bodies in
      let c = context-same 62 (omega arith) in
      ap (λ (p : Playing). p.context.last_samples)
      (sym (play-part (bodies_of k) (coefficients_of k) t (16 * q) (first_of k) (omega (arith, long, length-drop 96 k)) h)
      ∙ (λ i. play (bodies-same i) (coefficients-same i) (16 * q) (c i))
      ∙ play-part (bodies_of f) (coefficients_of f) t (16 * q) (first_of f) (omega (arith, n, length-drop 96 f)) h)

  -- the tests
  loop-fields : LoopFields f → LoopFields k
  loop-fields L =
      let a = field32 16 (omega arith) in
      let e = field32 20 (omega arith) in
      record {
        start = rw a L.start;
        first = rw (a, total-same) L.first;
        last = rw e L.last;
        within = rw (e, total-same) L.within;
        order = rw (a, e) L.order;
        header =
            field16 68 (omega arith)
            ∙ L.header
            ∙ sym (body_same (8 * (start_address_of f / 16)) (address-body (total_of f) (start_address_of f) L.start L.first))
            ∙ ap (λ (x : ℕ). get_or (bodies_of k) (8 * (x / 16)) 0) (sym a);
      }

  no-loop-fields : NoLoopFields f → NoLoopFields k
  no-loop-fields N =
      record {
        addresses = same-holds k f 96 head-same (replicate 8 0) 16 (omega arith) ∙ N.addresses;
        context = same-holds k f 96 head-same (replicate 6 0) 68 (omega arith) ∙ N.context;
      }

  fits : FileFits k size
  unfolding file_bytes
  fits =
      let e : eqb (flag_of k) 1 ≡ eqb (flag_of f) 1 = ap (λ (x : ℕ). eqb x 1) (field16 12 (omega arith)) in
      let z : 0 < t = frame-body (total_of f) 0 F.some in
      record {
        long = omega arith;
        some = rw total-same F.some;
        few = rw total-same F.few;
        bodies = rw total-same long;
        rate = rw (field32 8 (omega arith)) F.rate;
        wide = F.wide;
        narrow = F.narrow;
        nibbles = field32 4 (omega arith) ∙ F.nibbles ∙ ap nibble_count (sym total-same);
        flag = rw (field16 12 (omega arith)) F.flag;
        format = field16 14 (omega arith) ∙ F.format;
        two = field32 24 (omega arith) ∙ F.two;
        zeros = same-holds k f 96 head-same (replicate 22 0) 74 (omega arith) ∙ F.zeros;
        header = field16 62 (omega arith) ∙ F.header ∙ sym (body_same 0 z);
        looped = λ p. loop-fields (F.looped (sym e ∙ p));
        unlooped = λ p. no-loop-fields (F.unlooped (sym e ∙ p));
        pairs = ap lowest_pair coefficients-same ∙ F.pairs;
      }

  -- the image
  context-before : (j : ℕ) → j < block_count (start_shape (clip_of f size)) → context_before k (clip_of f size).block j ≡ context_before f (clip_of f size).block j
  unfolding context_before clip_of
  context-before j h =
      let s = start_shape (clip_of f size) in
      let L = clip-limits f size F in
      let w = start-body s j L h in
      let p = block-place s.block j L.eights in
      ap₂ (λ (v : ℕ) (g : History). context_bytes v g) (body_same (j * s.block) w) (history-same (j * (s.block / 8)) (omega (arith, w, p)))

  laid_same : laid_out k (clip_of f size) ≡ laid_out f (clip_of f size)
  unfolding laid_out clip_of
  laid_same =
      let g = clip_of f size in
      let s = start_shape g in
      let e = table_below (context_before k g.block) (context_before f g.block) s 0 (block_count s) (λ j p q. context-before j (omega arith)) in
      let c = context-same 68 (omega arith) in
      λ i. head_bytes mark g ++ (e i ++ (loop_bytes g.looped (c i) ++ bodies-same i))

  same-import : (into : List ℕ) → import_file k size into ≡ import_file f size into
  unfolding import_file import_answer
  same-import into =
      let e : file_answer k size ≡ file_answer f size = file-accepts k size fits ∙ sym (file-accepts f size F) in
      let n : imported_bytes k size ≡ imported_bytes f size = ap (λ (g : Start). image_size (start_shape g)) clip-same in
      let m : imported k size ≡ imported f size = ap (laid_out k) clip-same ∙ laid_same in
      rw (e, n, m)

-- "Import drops bytes past the last body"
pub drops : (f : List ℕ) (size : ℕ) → FileFits f size → (more into : List ℕ) → import_file (take (file_bytes (total_of f)) f ++ more) size into ≡ import_file f size into
unfolding file_bytes
drops f size F more into =
    let p = take (file_bytes (total_of f)) f in
    let b = F.bodies in
    let n : length p ≡ file_bytes (total_of f) = length-take-le (file_bytes (total_of f)) f (omega (arith, b)) in
    same-import f (p ++ more) size F (omega (arith, n, length-append p more)) (take_at p more (file_bytes (total_of f)) n) into
