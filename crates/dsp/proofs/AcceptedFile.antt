-- What a file that import accepts says, and that a file which says it is accepted.
use mathlib.Core.Bool.{Bool, true, false, cond, ◌&&◌}
use mathlib.Core.List.{List}
use mathlib.Core.Path.{◌≡◌, refl}
use Prim.Native.Nat.{ℕ, zero, suc, ◌+◌, ◌*◌, ◌/◌, ◌%◌, ◌≤◌, ◌<◌}
use native.Mathlib.Omega.{arith}
use borrow.Author.Tests.{leb-true, ltb-true, ltb-false, eqb-true, eqb-false, le-leb, lt-ltb, eq-eqb, ne_eqb}
use lib.Dec.{eqb, leb, ltb}
use lib.ListN.{length, get_or, replicate}
use Rattle.whole.specs.Frames.{most}
use Rattle.whole.specs.Outcome.{accepted}
use Rattle.whole.proofs.Outcomes.{passed, failed}
use Rattle.block.specs.Address.{address_to_sample}
use Rattle.block.specs.Refusals.{lowest_pair}
use Rattle.layout.specs.Fields.{at16, at32}
use Rattle.layout.specs.Limits.{total_ok, block_ok, Limits}
use Rattle.layout.specs.Sizes.{body_bytes, cut_down}
use Rattle.layout.proofs.LimitLaws.{both_true, loop-few}
use Rattle.clip.specs.Image.{start_shape}
use Rattle.image.specs.Opening.{holds}
use Rattle.image.proofs.TestsInTurn.{and-then}
use Rattle.dsp.specs.File.{nibble_count, total_of, nibbles_of, rate_of, flag_of, start_address_of, last_address_of, loop_of, coefficients_of, bodies_of}
use Rattle.dsp.specs.Import.{needed, long_enough, of_sample, loop_fields_ok, no_loop_fields, fields_ok, file_answer, clip_of, imported_bytes, import_answer}

-- a loop's fields, of samples of the clip
pub record LoopFields (f : List ℕ) : Type 0 where
  pub start : 2 ≤ start_address_of f % 16
  pub first : address_to_sample (start_address_of f) < total_of f
  pub last : 2 ≤ last_address_of f % 16
  pub within : address_to_sample (last_address_of f) < total_of f
  pub order : start_address_of f ≤ last_address_of f
  pub header : at16 f 68 ≡ get_or (bodies_of f) (8 * (start_address_of f / 16)) 0

-- the fields that are zero without a loop
pub record NoLoopFields (f : List ℕ) : Type 0 where
  pub addresses : holds f 16 (replicate 8 0) ≡ true
  pub context : holds f 68 (replicate 6 0) ≡ true

-- a file that import accepts at a block size
pub record FileFits (f : List ℕ) (size : ℕ) : Type 0 where
  pub long : 96 ≤ length f
  pub some : 1 ≤ total_of f
  pub few : total_of f ≤ most
  pub bodies : 96 + body_bytes (total_of f) ≤ length f
  pub rate : 1 ≤ rate_of f
  pub wide : 8 ≤ size
  pub narrow : size ≤ 65536
  pub nibbles : nibbles_of f ≡ nibble_count (total_of f)
  pub flag : flag_of f ≤ 1
  pub format : at16 f 14 ≡ 0
  pub two : at32 f 24 ≡ 2
  pub zeros : holds f 74 (replicate 22 0) ≡ true
  pub header : at16 f 62 ≡ get_or (bodies_of f) 0 0
  pub looped : eqb (flag_of f) 1 ≡ true → LoopFields f
  pub unlooped : eqb (flag_of f) 1 ≡ false → NoLoopFields f
  pub pairs : lowest_pair (coefficients_of f) ≡ false

-- ---- the tests, one by one

some-positive : (n : ℕ) → eqb n 0 ≡ false → 1 ≤ n
some-positive zero e = absurd (eqb-false 0 0 e refl)
some-positive (suc n) e = omega arith

-- an address of one of n samples
sample-says : (n a : ℕ) → of_sample n a ≡ true → (2 ≤ a % 16) × (address_to_sample a < n)
unfolding of_sample
sample-says n a e = let b = both_true (leb 2 (a % 16)) _ e in (leb-true 2 (a % 16) b.0, ltb-true (address_to_sample a) n b.1)

-- a count needs its body bytes
needed-some : (n : ℕ) → 1 ≤ n → needed n ≡ body_bytes n
unfolding needed
needed-some n h = rw (ne_eqb n 0 (λ e. omega (arith, e, h)))

module _ (f : List ℕ) where
  loop-says : loop_fields_ok f ≡ true → LoopFields f
  unfolding loop_fields_ok
  loop-says e =
      let a = both_true (of_sample (total_of f) (start_address_of f)) _ e in
      let b = both_true (of_sample (total_of f) (last_address_of f)) _ a.1 in
      let c = both_true (leb (start_address_of f) (last_address_of f)) _ b.1 in
      let p = sample-says (total_of f) (start_address_of f) a.0 in
      let q = sample-says (total_of f) (last_address_of f) b.0 in
      record {
        start = p.0;
        first = p.1;
        last = q.0;
        within = q.1;
        order = leb-true (start_address_of f) (last_address_of f) c.0;
        header = eqb-true (at16 f 68) (get_or (bodies_of f) (8 * (start_address_of f / 16)) 0) c.1;
      }

  none-says : no_loop_fields f ≡ true → NoLoopFields f
  unfolding no_loop_fields
  none-says e = let a = both_true (holds f 16 (replicate 8 0)) _ e in record { addresses = a.0; context = a.1 }

  either-says : (t : Bool) → cond t (loop_fields_ok f) (no_loop_fields f) ≡ true → (t ≡ true → LoopFields f) × (t ≡ false → NoLoopFields f)
  either-says true e = (λ p. loop-says e, λ p. absurd (let z : ◌≡◌ {A = ℕ} 0 1 = cc in omega arith))
  either-says false e = (λ p. absurd (let z : ◌≡◌ {A = ℕ} 0 1 = cc in omega arith), λ p. none-says e)

-- ---- what an accepted file says

-- every test of import holds
pub file-fits : (f : List ℕ) (size : ℕ) → file_answer f size ≡ accepted tt → FileFits f size
unfolding file_answer long_enough fields_ok
file-fits f size e =
    let n = total_of f in
    let a = passed (leb 96 (length f) && leb (96 + needed n) (length f)) 25 _ e in
    let b = passed (total_ok n) 4 _ a.1 in
    let c = failed (eqb (rate_of f) 0) 5 _ b.1 in
    let d = passed (block_ok size) 6 _ c.1 in
    let k = passed (fields_ok f) 26 _ d.1 in
    let p = failed (lowest_pair (coefficients_of f)) 13 (accepted tt) k.1 in
    let l = both_true (leb 96 (length f)) _ a.0 in
    let t = both_true (leb 1 n) _ b.0 in
    let s = both_true (leb 8 size) _ d.0 in
    let k1 = both_true (eqb (nibbles_of f) (nibble_count n)) _ k.0 in
    let k2 = both_true (leb (flag_of f) 1) _ k1.1 in
    let k3 = both_true (eqb (at16 f 14) 0) _ k2.1 in
    let k4 = both_true (eqb (at32 f 24) 2) _ k3.1 in
    let k5 = both_true (holds f 74 (replicate 22 0)) _ k4.1 in
    let k6 = both_true (eqb (at16 f 62) (get_or (bodies_of f) 0 0)) _ k5.1 in
    let k7 = either-says f (eqb (flag_of f) 1) k6.1 in
    let o = leb-true 1 n t.0 in
    record {
      long = leb-true 96 (length f) l.0;
      some = o;
      few = leb-true n most t.1;
      bodies = rw (needed-some n o) at (leb-true (96 + needed n) (length f) l.1);
      rate = some-positive (rate_of f) c.0;
      wide = leb-true 8 size s.0;
      narrow = leb-true size 65536 s.1;
      nibbles = eqb-true (nibbles_of f) (nibble_count n) k1.0;
      flag = leb-true (flag_of f) 1 k2.0;
      format = eqb-true (at16 f 14) 0 k3.0;
      two = eqb-true (at32 f 24) 2 k4.0;
      zeros = k5.0;
      header = eqb-true (at16 f 62) (get_or (bodies_of f) 0 0) k6.0;
      looped = k7.0;
      unlooped = k7.1;
      pairs = p.0;
    }

-- its clip is within the limits
pub clip-limits : (f : List ℕ) (size : ℕ) → FileFits f size → Limits (start_shape (clip_of f size))
unfolding clip_of cut_down
clip-limits f size F =
    let w = F.wide in
    let n = F.narrow in
    record {
      some = F.some;
      few = F.few;
      wide = omega arith;
      narrow = omega arith;
      eights = omega arith;
      further = loop-few (loop_of f);
    }

-- ---- back

module _ (f : List ℕ) (size : ℕ) (F : FileFits f size) where
  loop-again : LoopFields f → loop_fields_ok f ≡ true
  unfolding loop_fields_ok of_sample
  loop-again L =
      rw (
        le-leb 2 (start_address_of f % 16) L.start,
        lt-ltb (address_to_sample (start_address_of f)) (total_of f) L.first,
        le-leb 2 (last_address_of f % 16) L.last,
        lt-ltb (address_to_sample (last_address_of f)) (total_of f) L.within,
        le-leb (start_address_of f) (last_address_of f) L.order,
        eq-eqb (at16 f 68) (get_or (bodies_of f) (8 * (start_address_of f / 16)) 0) L.header,
      )

  none-again : NoLoopFields f → no_loop_fields f ≡ true
  unfolding no_loop_fields
  none-again N = rw (N.addresses, N.context)

  either-again : (t : Bool) → eqb (flag_of f) 1 ≡ t → cond t (loop_fields_ok f) (no_loop_fields f) ≡ true
  either-again true e = loop-again (F.looped e)
  either-again false e = none-again (F.unlooped e)

  fields-again : fields_ok f ≡ true
  unfolding fields_ok
  fields-again =
      rw (
        eq-eqb (nibbles_of f) (nibble_count (total_of f)) F.nibbles,
        le-leb (flag_of f) 1 F.flag,
        eq-eqb (at16 f 14) 0 F.format,
        eq-eqb (at32 f 24) 2 F.two,
        F.zeros,
        eq-eqb (at16 f 62) (get_or (bodies_of f) 0 0) F.header,
      )
      (either-again (eqb (flag_of f) 1) refl)

  -- a file of which they all hold is accepted
  pub file-accepts : file_answer f size ≡ accepted tt
  unfolding file_answer long_enough
  file-accepts =
      rw (
        le-leb 96 (length f) F.long,
        needed-some (total_of f) F.some,
        le-leb (96 + body_bytes (total_of f)) (length f) F.bodies,
        le-leb 1 (total_of f) F.some,
        le-leb (total_of f) most F.few,
        ne_eqb (rate_of f) 0 (λ z. let r = F.rate in omega (arith, z, r)),
        le-leb 8 size F.wide,
        le-leb size 65536 F.narrow,
        fields-again,
        F.pairs,
      )

-- a file that import accepts, and a buffer with room for its image
pub import-accepted : (f : List ℕ) (size room : ℕ) → import_answer f size room ≡ accepted tt → FileFits f size × (imported_bytes f size ≤ room)
unfolding import_answer
import-accepted f size room p =
    let a = and-then (file_answer f size) _ p in
    let b = failed (ltb room (imported_bytes f size)) 8 (accepted tt) a.1 in
    (file-fits f size a.0, ltb-false room (imported_bytes f size) b.0)
