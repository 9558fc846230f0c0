-- `float::min` meets its contract, branch by branch. Assumes nothing.
use Rattle.sedona_geometry.specs.Float.{min_num}
use Rattle.sedona_geometry.proofs.Order.{ne_self}
use Rattle.sedona_geometry.proofs.float.min.Goals as goal

pub returns-then-a : goal.returns-then-a
unfolding min_num
returns-then-a c = rw (c.plus_zero.ensures, ← ne_self c.args.a, c.if-a.true)

pub returns-then-b-a : goal.returns-then-b-a
unfolding min_num
returns-then-b-a c = rw (c.plus_zero-then-b-a.ensures, ← ne_self c.args.a, c.if-a.false, c.if-b-a.true)

pub returns-else-b-a : goal.returns-else-b-a
unfolding min_num
returns-else-b-a c = rw (c.plus_zero-else-b-a.ensures, ← ne_self c.args.a, c.if-a.false, c.if-b-a.false)
