-- What is promised of a file that import accepts.
use mathlib.Core.List.{List, ◌++◌}
use mathlib.Core.Path.{◌≡◌, ap, ◌∙◌}
use Prim.Native.Nat.{ℕ, ◌≤◌}
use native.Mathlib.Omega.{arith}
use borrow.Author.Tests.{le-ltb}
use lib.ListN.{length, drop}
use Rattle.whole.specs.Outcome.{accepted, effect}
use Rattle.whole.proofs.Stores.{spread}
use Rattle.dsp.specs.Import.{imported, imported_bytes, file_answer, import_answer, import_file}
use Rattle.dsp.specs.Returns.{Bytes, ImportedFile}
use Rattle.dsp.proofs.AcceptedFile.{FileFits, file-fits}
use Rattle.dsp.proofs.DroppedBytes.{drops}
use Rattle.dsp.proofs.ExportedAgain.{returns}
use Rattle.dsp.proofs.ImportedBlocks.{samples, plays, exports}
use Rattle.dsp.proofs.ImportedImage as imports

-- the image as import leaves it
file-leaves : (f : List ℕ) (size : ℕ) → file_answer f size ≡ accepted tt → length (imported f size) ≡ imported_bytes f size → (into : List ℕ) → imported_bytes f size ≤ length into
    → import_file f size into ≡ effect (accepted (imported_bytes f size)) (imported f size ++ drop (imported_bytes f size) into)
unfolding import_file import_answer
file-leaves f size e n into h =
    rw (e, le-ltb (length into) (imported_bytes f size) h)
    (ap (effect (accepted (imported_bytes f size))) (spread (imported f size) into (omega (arith, n, h)) ∙ ap (λ (k : ℕ). imported f size ++ drop k into) n))

pub imported-file : (f : List ℕ) (size : ℕ) (rest : List ℕ) → Bytes f → file_answer f size ≡ accepted tt → ImportedFile f size rest
imported-file f size rest b e =
    let F : FileFits f size = file-fits f size e in
    record {
      count = imports.count f size F b rest;
      leaves = file-leaves f size e (imports.count f size F b rest);
      drops = drops f size F;
      opens = imports.opens f size F b rest;
      compares = imports.compares f size F b rest;
      plays = plays f size F b rest;
      samples = samples f size F b rest;
      exports = exports f size F b rest;
      returns = returns f size F b rest;
    }
