-- `quick_pass` meets its contract.
use Rattle.std.proofs.Common.{◌≡◌, ℕ, ◌≤◌, true, Option, Some, None, IfSome, rules, sym}
use mathlib.Core.List.{List}
use lib.IntN.{ℤ}
use Rattle.frame.specs.declared.seen.Seen.{Seen}
use Rattle.frame.specs.Pass.{run_pass}
use Rattle.frame.specs.inner.Places.{Padded, history_of, samples_of}
use Rattle.frame.specs.inner.Quick.{Roomy, Spare, Traces, is_roomy}
use Rattle.frame.specs.inner.Seen.{Shows, pass_of}
use Rattle.frame.proofs.LawsPlaces.{sample-at, samples-fit, history-fits}
use Rattle.frame.proofs.LawsQuick.{roomy-is}
use Rattle.frame.proofs.LawsSeen.{seen-is, seen-small}
use Rattle.frame.proofs.search.quick_pass.Goals as goal

-- what is shown of a pass is the pass
told : (c0 c1 : ℤ) (fs ws ss : List ℤ) (p : ℕ) (o : Option Seen) → p ≤ 12 → Roomy c0 c1 → Padded fs → Spare ws ss → Traces c0 c1 (history_of fs) (samples_of fs) p ws ss → IfSome o (Shows fs ws ss p)
    → IfSome o (λ r. (pass_of r ss ≡ run_pass c0 c1 (history_of fs) (samples_of fs) p) × (r.overflow ≤ 248))
told c0 c1 fs ws ss p None h ro d e k u = u
told c0 c1 fs ws ss p (Some r) h ro d e k u = (
  seen-is c0 c1 (history_of fs) (samples_of fs) p fs ws ss r h ro (history-fits fs d) (samples-fit fs d) k u e.s-length (λ i l. sym (sample-at fs i l)),
  seen-small u,
)

roomy : (c0 c1 : ℤ) → is_roomy c0 c1 ≡ true → Roomy c0 c1
roomy c0 c1 e = roomy-is c0 c1 e

pub run_quick-requires : goal.run_quick-requires
run_quick-requires c = roomy _ _ (search rules)

pub returns : goal.returns
returns c =
    let a = c.args in
    let d = a.frame.now in
    let r = c.run_quick.new.room in
    told a.pair.c0 a.pair.c1 d.samples r.w r.s a.p.value c.show.result a.p.most (roomy _ _ (search rules)) d.padded r.spare c.in_ok-run_quick.ensures c.show.ensures
