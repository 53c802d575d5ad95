-- Coefficients that are not refused are bounded.
use Rattle.std.proofs.Common.{◌≡◌, Bool, true, false, cond, List, ℤ, Ok, refl, ap}
use Rattle.whole.specs.declared.History.{History}
use Rattle.whole.specs.Outcome.{accepted, refused}
use Rattle.frame.specs.declared.OneFrame.{OneFrame}
use Rattle.frame.specs.Frame.{coefficients_ok, FrameEffect, frame_effect, encode_one_frame}
use Rattle.frame.proofs.LawsFrame.{limits-bounded}
use Rattle.frame_list.proofs.FramesReplay135.replay.Goals as goal

passed : (a b : FrameEffect) (t : Bool) → b.outcome ≡ refused 7 → accepted tt ≡ (cond t a b).outcome → t ≡ true
passed a b true f e = refl
passed a b false f e = cc

encoded-passed : (h : History) (xs cs : List ℤ) (one : OneFrame) → frame_effect h (Ok one) ≡ encode_one_frame h xs cs → coefficients_ok cs ≡ true
unfolding encode_one_frame
encoded-passed h xs cs one e = passed _ _ (coefficients_ok cs) refl (ap (λ (x : FrameEffect). x.outcome) e)

pub history_after-after-requires-clause-all_bounded :
    goal.history_after-after-requires-clause-all_bounded
history_after-after-requires-clause-all_bounded g c =
    limits-bounded _ (encoded-passed _ _ _ c.in-Ok.one c.in-Ok.ensures)
