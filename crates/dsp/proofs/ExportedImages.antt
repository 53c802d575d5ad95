-- An image that export accepts comes back from its file.
use mathlib.Core.List.{List}
use mathlib.Core.Path.{◌≡◌}
use Prim.Native.Nat.{ℕ}
use Rattle.whole.specs.Outcome.{accepted}
use Rattle.image.proofs.LawsSame.{compare-accepted}
use Rattle.image.proofs.OpenImages.{opens}
use Rattle.dsp.specs.Export.{export_answer}
use Rattle.dsp.specs.Returns.{Bytes, ExportedImage}
use Rattle.dsp.proofs.ExportReturns.{export-accepted, accepted-image}
use Rattle.dsp.proofs.WrittenAgain.{written_is}

-- An image that export accepts, exported and imported at its own block size, returns byte for byte; import takes its file at every block size.
pub export-returns : (l rest : List ℕ) (room : ℕ) → Bytes l → export_answer l room ≡ accepted tt → ExportedImage l rest
export-returns l rest room b p = accepted-image l rest room b p (written_is l b (opens l (compare-accepted l (export-accepted l room p).0).opens))
