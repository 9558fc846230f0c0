-- `coordinates::width_where` meets its contract. Assumes nothing.
use native.Mathlib.Omega.{arith}
use Rattle.sedona_wkb.specs.Places.{width_where}
use Rattle.sedona_wkb.proofs.coordinates.width_where.Goals as goal

pub returns-then-has : goal.returns-then-has
unfolding width_where
returns-then-has c = (rw c.if-has.true, omega arith)

pub returns-else-has : goal.returns-else-has
unfolding width_where
returns-else-has c = (rw c.if-has.false, omega arith)
