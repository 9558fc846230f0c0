-- `float::max` meets its contract, branch by branch. Assumes nothing.
use Rattle.sedona_geometry.specs.Float.{max_num}
use Rattle.sedona_geometry.proofs.Order.{ne_self}
use Rattle.sedona_geometry.proofs.float.max.Goals as goal

pub returns-then-a : goal.returns-then-a
unfolding max_num
returns-then-a c = rw (c.plus_zero.ensures, ← ne_self c.args.a, c.if-a.true)

pub returns-then-a-b : goal.returns-then-a-b
unfolding max_num
returns-then-a-b c = rw (c.plus_zero-then-a-b.ensures, ← ne_self c.args.a, c.if-a.false, c.if-a-b.true)

pub returns-else-a-b : goal.returns-else-a-b
unfolding max_num
returns-else-a-b c = rw (c.plus_zero-else-a-b.ensures, ← ne_self c.args.a, c.if-a.false, c.if-a-b.false)
