use Rattle.std.proofs.Common.{ℕ, List, ap, ◌∙◌, subst}
use Rattle.layout.specs.Sizes.{bodies_place}
use Rattle.image.specs.Reading.{shape_in}
use Rattle.image.specs.inner.Asked.{Opens}
use Rattle.image.proofs.opened.Opened.bodies.Goals as goal

pub bodies_place-requires : goal.bodies_place-requires
bodies_place-requires c = rw c.read_shape.ensures c.self.invariant.0.head.limits

pub returns-clause-read : goal.returns-clause-read
returns-clause-read c = c.bodies_place.ensures ∙ ap bodies_place c.read_shape.ensures ∙ ap (λ (l : List ℕ). bodies_place (shape_in l)) c.self.view_is

pub returns-clause-opens : goal.returns-clause-opens
returns-clause-opens c = subst Opens c.self.view_is c.self.invariant.0
