-- `history_after` meets its contract: none, one or more samples of the frame.
use Rattle.std.proofs.Common.{rules, arith, ap, ap₂, ◌∙◌, w16, ◌-◌}
use Rattle.std.proofs.Math.Facts.{to_z-of_z}
use lib.IntN.{ℤ, pos}
use lib.ListN.{get_or}
use mir.Val.{SFits}
use Rattle.whole.specs.declared.History.{History}
use Rattle.frame.specs.Frame.{history_after}
use Rattle.frame.proofs.LawsFrame.{history-none, history-one, history-more}
use Rattle.frame.proofs.history_after.Goals as goal

-- a history by its samples
abbrev history : ℤ → ℤ → History
history a b = record { newest = a; older = b }

pub returns-in-0 : goal.returns-in-0
returns-in-0 c = let s = c.args in history-none s.history s.samples ∙ ap (history_after s.history s.samples) (search rules)

pub returns-in-1 : goal.returns-in-1
returns-in-1 c =
    let s = c.args in
    let n : SFits w16 (get_or s.samples 0 (pos 0)) = search rules in
    let o : SFits w16 s.history.newest = search rules in
    ap₂ history (to_z-of_z n) (to_z-of_z o) ∙ history-one s.history s.samples s.m (search rules)

pub returns-in_default : goal.returns-in_default
returns-in_default c =
    let s = c.args in
    let n : SFits w16 (get_or s.samples (s.m - 1) (pos 0)) = search rules in
    let o : SFits w16 (get_or s.samples (s.m - 2) (pos 0)) = search rules in
    ap₂ history (to_z-of_z n) (to_z-of_z o) ∙ history-more s.history s.samples s.m (omega arith)
