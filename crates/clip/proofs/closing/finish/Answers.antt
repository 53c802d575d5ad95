use Rattle.std.proofs.Common.{true, List, ℕ, ap, ◌∙◌, arith}
use Rattle.clip.specs.Encoding.{Left, left, encoder_shape, moved, no_frame}
use Rattle.clip.proofs.LastFrame.{last-shape, closed, finish-last}
use Rattle.clip.proofs.closing.finish.Goals as goal

pub put_end-requires : goal.put_end-requires
put_end-requires c =
    let s = ap (λ (s : Left). encoder_shape s.encoder) c.encode_last.ensures ∙ last-shape c.args.e c.args.image.now in
    rw s (c.requires.limits, omega (arith, c.requires.size, c.encode_last.auto.image))

pub returns : goal.returns
returns c =
    let r = c.encode_last.new.self in
    ap (λ (l : List ℕ). left (moved r r.fed r.history no_frame r.passes true r.context) l) c.put_end.ensures
    ∙ ap closed c.encode_last.ensures
    ∙ finish-last c.args.e c.args.image.now
