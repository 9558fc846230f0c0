-- `WraparoundInterval::intersects_by_pieces` meets its contract. Assumes nothing.
use Rattle.sedona_geometry.specs.WraparoundInterval.{intersects_interval}
use Rattle.sedona_geometry.proofs.interval.WraparoundInterval.intersects_by_pieces.Goals as goal

pub returns-then-intersect : goal.returns-then-intersect
unfolding intersects_interval
returns-then-intersect c =
    rw (
      ← c.split-a.ensures,
      ← c.split-b.ensures,
      ← c.intersect.ensures,
      c.if-intersect.true,
    )

pub returns-else-intersect : goal.returns-else-intersect
unfolding intersects_interval
returns-else-intersect c =
    rw (
      ← c.split-a.ensures,
      ← c.split-b.ensures,
      ← c.intersect.ensures,
      c.if-intersect.false,
      c.intersect-else-intersect.ensures,
    )
