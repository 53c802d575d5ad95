use Rattle.std.proofs.Common.{◌≡◌, true, rules}
use Rattle.clip.specs.Encoding.{valid}
use Rattle.clip.proofs.ValidState.{sound}
use Rattle.clip.proofs.Encoder.going.Goals as goal

pub image_size-size-requires : goal.image_size-size-requires
image_size-size-requires c =
    let e : valid c.args.self ≡ true = search rules in
    rw c.shape.ensures (sound c.args.self e).limits
