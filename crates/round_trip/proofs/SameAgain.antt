-- A closed image is the same as any other of the same start and the same samples.
use mathlib.Core.Bool.{true}
use mathlib.Core.List.{List, ◌++◌}
use mathlib.Core.Path.{◌≡◌, refl, sym, ◌∙◌}
use Prim.Native.Nat.{ℕ, ◌<◌}
use native.Mathlib.Omega.{arith}
use lib.IntN.{ℤ}
use lib.ListN.{length, length-append, get_or-append}
use Rattle.whole.specs.Frames.{frame_count}
use Rattle.whole.specs.Outcome.{accepted}
use Rattle.layout.specs.Fields.{mark}
use Rattle.layout.specs.Sizes.{image_size}
use Rattle.clip.specs.Runs.{loop_entry}
use Rattle.clip.specs.declared.starting.Start.{Start}
use Rattle.clip.proofs.ImageByFrames.{Fine, built, entry-last, built-length}
use Rattle.image.specs.Reading.{shape_in}
use Rattle.image.specs.Sameness.{compare_answer, same}
use Rattle.image.proofs.EqualBytes.{equal-bytes-same}
use Rattle.image.proofs.LawsSame.{compare-accepts}
use Rattle.round_trip.proofs.FramesPlayed.{Audible}
use Rattle.round_trip.proofs.ImageOpens.{total-is, block-is, loops-are, image-made}
use Rattle.round_trip.proofs.ImagePlayed.{pairs-heard}

module _ (g : Start) (F : Fine g) (xs : List ℤ) (rest : List ℕ) (A : Audible g xs) where
  abbrev bytes : List ℕ
  bytes = built g mark (loop_entry g xs true) xs (frame_count g.total)

  abbrev image : List ℕ
  image = bytes ++ rest

  -- it may be compared
  pub compared : compare_answer image ≡ accepted tt
  compared = compare-accepts image (record { opens = image-made g F xs rest; pairs = pairs-heard g F xs rest A })

  size_is : image_size (shape_in image) ≡ length bytes
  size_is =
      rw (total-is g F xs rest, block-is g F xs rest, loops-are g F xs rest)
      (sym (built-length g F mark refl (loop_entry g xs true) (entry-last g xs true) xs (frame_count g.total)))

  -- whatever follows it
  pub same-again : (m : List ℕ) → same image (bytes ++ m) ≡ accepted true
  same-again m =
      let s = size_is in
      equal-bytes-same image (bytes ++ m) compared (omega (arith, s, length-append bytes m))
      (λ i h. let lt : i < length bytes = omega (arith, s, h) in get_or-append bytes m 0 i lt ∙ sym (get_or-append bytes rest 0 i lt))
