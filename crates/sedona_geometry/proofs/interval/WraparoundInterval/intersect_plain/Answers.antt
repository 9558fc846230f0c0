-- `WraparoundInterval::intersect_plain` meets its contract. Assumes nothing.
use Rattle.sedona_geometry.specs.WraparoundInterval.{intersect_plain}
use Rattle.sedona_geometry.proofs.interval.WraparoundInterval.intersect_plain.Goals as goal

pub returns-then-right : goal.returns-then-right
unfolding intersect_plain
returns-then-right c =
    rw (
      ← c.split-b.ensures,
      ← c.intersects_interval-left.ensures,
      c.if-left.true,
      ← c.intersects_interval-right.ensures,
      c.if-right.true,
    )

pub returns-then-left : goal.returns-then-left
unfolding intersect_plain
returns-then-left c =
    rw (
      c.from_interval.ensures,
      c.intersection.ensures,
      ← c.split-b.ensures,
      ← c.intersects_interval-left.ensures,
      c.if-left.true,
      ← c.intersects_interval-right.ensures,
      c.if-right.false,
    )

pub returns-then-right-2 : goal.returns-then-right-2
unfolding intersect_plain
returns-then-right-2 c =
    rw (
      c.from_interval-then-right-2.ensures,
      c.intersection-then-right-2.ensures,
      ← c.split-b.ensures,
      ← c.intersects_interval-left.ensures,
      c.if-left.false,
      ← c.intersects_interval-right.ensures,
      c.if-right-2.true,
    )

pub returns : goal.returns
unfolding intersect_plain
returns c =
    rw (
      c.empty.ensures,
      ← c.split-b.ensures,
      ← c.intersects_interval-left.ensures,
      c.if-left.false,
      ← c.intersects_interval-right.ensures,
      c.if-right-2.false,
    )
