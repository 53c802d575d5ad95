-- Laws of the sizes of a clip.
use mathlib.Core.Path.{◌≡◌, sym, ap, ◌∙◌}
use Prim.Native.Nat.{ℕ, suc, ◌+◌, ◌-◌, ◌*◌, ◌/◌, ◌%◌, ◌≤◌, ◌<◌, min}
use native.Mathlib.Nat.{mul-le-mul, le_refl, div-lt_iff_lt-mul, le-div_iff_mul-le, suc-mul, mul_assoc, mul_comm, div-add-mod'}
use native.Mathlib.Omega.{arith}
use borrow.Author.Tests.{lt-ltb}
use Rattle.std.proofs.lemmas.Grind.{div_ceil_times}
use Rattle.layout.specs.declared.Shape.{Shape}
use Rattle.layout.specs.Sizes.{block_count, block_length}
use Rattle.whole.specs.Frames.{most, frame_count}
use Rattle.layout.specs.Limits.{Limits}

-- a quotient rounded up
pub rounded_up : (a b : ℕ) → 0 < b → a / b + min 1 (a % b) ≡ (a + b - 1) / b
rounded_up a b p =
    let c = a / b + min 1 (a % b) in
    let t = div_ceil_times a b p in
    let l : c ≤ (a + b - 1) / b = (le-div_iff_mul-le {x = c} {y = a + b - 1} p).1 (omega (arith, t.1)) in
    let h : (a + b - 1) / b < suc c = (div-lt_iff_lt-mul p).1 (omega (arith, t.0, suc-mul c b)) in
    omega arith

-- there are at most as many blocks as frames
pub blocks-le : (f b : ℕ) → 8 ≤ b → (8 * f + b - 1) / b ≤ f
blocks-le f b w =
    let p : 0 < b = omega arith in
    let m : f * 8 ≤ f * b = mul-le-mul (le_refl f) w in
    let s : suc f * b ≡ f * b + b = suc-mul f b in
    let l : (8 * f + b - 1) / b < suc f = (div-lt_iff_lt-mul p).1 (omega (arith, m, s)) in
    omega arith

pub frames-le : (n : ℕ) → n ≤ most → frame_count n ≤ 1048576
unfolding frame_count
frames-le n h = omega arith

-- a block starts within the bodies
pub start-within : (s : Shape) (k : ℕ) → Limits s → k < block_count s → k * s.block < 8 * frame_count s.total
unfolding block_count frame_count
start-within s k L h =
    let z : 0 < s.block = omega (arith, L.wide) in
    omega (arith, (le-div_iff_mul-le {x = suc k} {y = 8 * frame_count s.total + s.block - 1} z).0 h, suc-mul k s.block)

-- its first frame is one of the clip's
pub block-first : (s : Shape) (k : ℕ) → Limits s → k < block_count s → k * (s.block / 8) < frame_count s.total
block-first s k L h =
    let w : s.block ≡ s.block / 8 * 8 = omega (arith, L.eights) in
    let p : k * s.block ≡ k * (s.block / 8) * 8 = ap (λ (x : ℕ). k * x) w ∙ sym (mul_assoc k (s.block / 8) 8) in
    omega (arith, p, start-within s k L h)

-- there is a block
pub blocks_some : (s : Shape) → Limits s → 0 < block_count s
unfolding block_count frame_count
blocks_some s L =
    let w = L.wide in
    let n = L.some in
    let z : 0 < s.block = omega (arith, w) in
    (le-div_iff_mul-le {x = 1} {y = 8 * frame_count s.total + s.block - 1} z).1 (omega (arith, n, w))

-- every block but the last is whole
pub block-whole : (s : Shape) (j : ℕ) → Limits s → suc j < block_count s → block_length s j ≡ 16 * (s.block / 8)
unfolding block_length
block-whole s j L h =
    let f = block-first s (suc j) L h in
    let d = suc-mul j (s.block / 8) in
    rw (lt-ltb (j * (s.block / 8) + s.block / 8) (frame_count s.total) (omega (arith, f, d)))

-- and as long as the first
pub first-length : (s : Shape) (j : ℕ) → Limits s → suc j < block_count s → block_length s 0 ≡ block_length s j
first-length s j L h = block-whole s 0 L (omega arith) ∙ sym (block-whole s j L h)

-- the last frame, and what is in it
pub frames-some : (n : ℕ) → 1 ≤ n → (1 ≤ frame_count n) × (14 * (frame_count n - 1) ≤ n) × (n - 14 * (frame_count n - 1) ≤ 14)
unfolding frame_count
frames-some n h = (omega arith, omega arith, omega arith)

-- sizes that fit
pub blocks-most : (s : Shape) → Limits s → block_count s ≤ 1048576
unfolding block_count frame_count
blocks-most s L = omega (arith, blocks-le (frame_count s.total) s.block L.wide, frames-le s.total L.few)

pub start-most : (s : Shape) (k : ℕ) → Limits s → k < block_count s → k * s.block < 8388608
start-most s k L h = omega (arith, start-within s k L h, frames-le s.total L.few)

-- the block that a frame is the first of
pub first_block : (s : Shape) (q : ℕ) → Limits s → q < frame_count s.total → q % (s.block / 8) ≡ 0 → q / (s.block / 8) < block_count s
unfolding block_count frame_count
first_block s q L h e =
    let w : s.block ≡ s.block / 8 * 8 = omega (arith, L.eights) in
    let d = div-add-mod' q (s.block / 8) in
    let p : q / (s.block / 8) * s.block ≡ q / (s.block / 8) * (s.block / 8) * 8 = ap (λ (x : ℕ). q / (s.block / 8) * x) w ∙ sym (mul_assoc (q / (s.block / 8)) (s.block / 8) 8) in
    let z : 0 < s.block = omega (arith, L.wide) in
    (le-div_iff_mul-le {x = suc (q / (s.block / 8))} {y = 8 * frame_count s.total + s.block - 1} z).1 (omega (arith, suc-mul (q / (s.block / 8)) s.block, p, d))

-- a block's bytes begin where its first frame's do
pub block-place : (b j : ℕ) → b % 8 ≡ 0 → j * b ≡ 8 * (j * (b / 8))
block-place b j e =
    let w : b ≡ b / 8 * 8 = omega arith in
    ap (λ (x : ℕ). j * x) w ∙ sym (mul_assoc j (b / 8) 8) ∙ mul_comm (j * (b / 8)) 8

-- all frames are in blocks
pub blocks-all : (s : Shape) → Limits s → frame_count s.total ≤ block_count s * (s.block / 8)
unfolding block_count frame_count
blocks-all s L =
    let z : 0 < s.block = omega (arith, L.wide) in
    let kk = (8 * frame_count s.total + s.block - 1) / s.block in
    let h : 8 * frame_count s.total + s.block - 1 < suc kk * s.block = (div-lt_iff_lt-mul {x = 8 * frame_count s.total + s.block - 1} {y = suc kk} z).0 (omega arith) in
    omega (arith, suc-mul kk s.block, block-place s.block kk L.eights)

-- what the code's sums and differences need of a clip's sizes
pub ruleset fitting = (frames-some, blocks-most, block-first)
