-- What encoding a frame does to the state and to the image's bytes. Definitions only.
use Rattle.std.specs.Prelude.{cond, ℕ, ◌+◌, ◌-◌, ◌/◌, ◌%◌, eqb, pos, take, replicate}
use Rattle.std.proofs.lemmas.List.Edits.{sets}
use Rattle.frame.specs.Frame.{encode_frame, history_after}
use Rattle.clip.specs.Encoding.{Left, left, encoder_shape, store, loop_context, moved, no_frame}
use Rattle.clip.specs.Unheard.{framed}

-- frame q, the unfinished one, is encoded to its place, where m of its samples count, and another begins
unfoldable pub encoded : Left → ℕ → ℕ → Left
encoded s q m =
    let e = s.encoder in
    let c = encode_frame e.history e.frame e.coefficients in
    left (moved e e.fed (history_after e.history c.samples m) no_frame (e.passes + c.passes) e.closed (loop_context e.looped q e.history c e.context))
    (store (encoder_shape e) q (take (1 + (m + 1) / 2) c.bytes) e.history s.bytes)

-- a short last frame is encoded, zeros for the samples that it lacks
unfoldable pub last_encoded : Left → Left
last_encoded s =
    let e = s.encoder in
    let m = e.fed % 14 in
    cond (eqb m 0) s (encoded (left (framed e (sets e.frame m (replicate (14 - m) (pos 0)))) s.bytes) (e.fed / 14) m)
