-- A call's return, packed from a lower call's answer, is what the definition makes of that answer. Assumes nothing.
use mathlib.Core.List.{List}
use mathlib.Core.Path.{◌≡◌, ap, ◌∙◌}
use Prim.Native.Nat.{ℕ, ◌+◌, ◌/◌}
use Rattle.std.specs.Prelude.{Result, Ok, Err, ℤ, pos, false}
use Rattle.block.specs.declared.FrameContext.{FrameContext}
use Rattle.block.specs.Context.{new_context}
use Rattle.whole.specs.Outcome.{Outcome, accepted, refused_at, without_values, or_kept, outcome_code, outcome_entry, Effect, effect}
use Rattle.clip.specs.declared.Encoder.{Encoder}
use Rattle.clip.specs.declared.Refusal as Clip
use Rattle.clip.specs.Encoding as Clips
use Rattle.std.specs.Result.{ResultUnwrapsOrElse}
use Rattle.clip.proofs.Defaults.{Zeros}
use Rattle.image.specs.declared.Opening as Told
use Rattle.image.specs.declared.Refusal as Image
use Rattle.image.specs.Opening as Images
use Rattle.doilycairn.proofs.Defaults.{default-head, default-loop, default-context}
use Rattle.doilycairn.specs.declared.reading.Opening.{Opening}
use Rattle.image.specs.Bodies.{block_answer, body_in, block_body}
use Rattle.image.specs.Reading.{offset_in, length_in, context_in}
use Rattle.doilycairn.specs.declared.reading.Body.{Body}
use Rattle.doilycairn.specs.declared.reading.Part.{Part}
use Rattle.doilycairn.specs.Reading.{open_seen, body_at, handed, body_in_c, part_answer, part_seen}
use Rattle.doilycairn.specs.Writing.{encoding_answer, clip_seen}

-- ---- a clip

pub clip-seen : (a : Result Encoder Clip.Refusal) (kept : Encoder) (l : List ℕ) {f : Effect (Outcome Unit) Clips.Left}
    → effect (without_values (Clips.outcome a)) (Clips.left (or_kept a kept) l) ≡ f → effect (encoding_answer a kept) l ≡ clip_seen f
clip-seen (Ok e) kept l p = ap clip_seen p
clip-seen (Err r) kept l p = ap clip_seen p

-- ---- an image

pub part-seen : (o : Outcome (ℕ × ℕ)) (out : List ℤ) {e : Effect (Outcome (ℕ × ℕ)) (List ℤ)} {r : Part} → r ≡ part_answer o → effect o out ≡ e → effect r out ≡ part_seen e
part-seen o out p q = ap (λ (r : Part). effect r out) p ∙ ap part_seen q

-- the entry's numbers, and two nibbles a byte
pub body-told : (l : List ℕ) (k offset bytes nibbles : ℕ) (c : FrameContext) → offset ≡ offset_in l k → nibbles ≡ length_in l k → bytes ≡ (nibbles + 1) / 2 → c ≡ context_in l k
    → ◌≡◌ {A = Body} (record { code = 0; entry = 0; offset = offset; bytes = bytes; nibbles = nibbles; context = c }) (body_at l k)
unfolding body_at
body-told l k offset bytes nibbles c p q e r = rw (e, p, q, r)

-- the entry's place is that of the block's body
pub body-found : (l : List ℕ) (k : ℕ) {r : Body} → r ≡ body_at l k → block_answer l k ≡ accepted tt → handed r l ≡ body_in_c l k
unfolding body_at body_in_c block_body body_in
body-found l k p q = rw (p, q)

-- refused, it is nowhere and has no bytes
pub body_refused : (l : List ℕ) (k n j : ℕ) {code entry : ℕ} {c : FrameContext}
    → code ≡ n → entry ≡ j → c ≡ new_context → block_answer l k ≡ refused_at n j
    → handed (record { code = code; entry = entry; offset = 0; bytes = 0; nibbles = 0; context = c }) l ≡ body_in_c l k
unfolding body_in_c block_body
body_refused l k n j p r z q = rw (p, r, z, q)

-- ---- opening

-- what a derived default of an opening tells of its fields, in their sequence
abbrev pub DefaultFields : Told.Opening → Type 0
DefaultFields o =
    (((o.head.total ≡ 0)
    × ((o.head.rate ≡ 0) × ((o.head.block ≡ 0) × ((o.head.gain ≡ 0) × (Zeros 16 o.head.coefficients × (o.head.blocks ≡ 0))))))
    × (((o.looped.start ≡ 0) × ((o.looped.end ≡ 0) × (o.looped.present ≡ false)))
    × ((o.context.predictor_and_scale ≡ 0) × ((o.context.last_samples.newest ≡ pos 0) × (o.context.last_samples.older ≡ pos 0)))))

-- what opening tells; refused, zeros
pub open-seen : (a : Result Told.Opening Image.Refusal) (o : Told.Opening) {e : Effect (Outcome Unit) Images.Told} → ResultUnwrapsOrElse a DefaultFields o
    → effect (without_values (Images.outcome a)) (Images.told_by a) ≡ e
    → ◌≡◌ {A = Opening} (record { code = outcome_code (Images.outcome a); entry = outcome_entry (Images.outcome a); head = o.head; looped = o.looped; context = o.context }) (open_seen e)
open-seen (Ok v) o d p = rw d (ap open_seen p)
open-seen (Err r) o d p = rw (default-head o.head d.0, default-loop o.looped d.1.0, default-context o.context d.1.1) (ap open_seen p)
