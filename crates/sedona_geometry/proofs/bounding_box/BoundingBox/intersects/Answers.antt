-- `BoundingBox::intersects` meets its contract. Assumes nothing.
use Rattle.sedona_geometry.specs.BoundingBox.{intersects}
use Rattle.sedona_geometry.proofs.bounding_box.BoundingBox.intersects.Goals as goal

pub returns-then-dimensions_intersect : goal.returns-then-dimensions_intersect
unfolding intersects
returns-then-dimensions_intersect c =
    rw (
      ← c.intersects_interval.ensures,
      c.if-intersects_interval.true,
      ← c.intersects_interval-then-intersects_interval.ensures,
      c.if-intersects_interval-2.true,
      ← c.dimensions_intersect.ensures,
      c.if-dimensions_intersect.true,
      c.dimensions_intersect-then-dimensions_intersect.ensures,
    )

pub returns-else-dimensions_intersect : goal.returns-else-dimensions_intersect
unfolding intersects
returns-else-dimensions_intersect c =
    rw (
      ← c.intersects_interval.ensures,
      c.if-intersects_interval.true,
      ← c.intersects_interval-then-intersects_interval.ensures,
      c.if-intersects_interval-2.true,
      ← c.dimensions_intersect.ensures,
      c.if-dimensions_intersect.false,
    )

pub returns-else-intersects_interval-2 : goal.returns-else-intersects_interval-2
unfolding intersects
returns-else-intersects_interval-2 c =
    rw (
      ← c.intersects_interval.ensures,
      c.if-intersects_interval.true,
      ← c.intersects_interval-then-intersects_interval.ensures,
      c.if-intersects_interval-2.false,
    )

pub returns-else-intersects_interval : goal.returns-else-intersects_interval
unfolding intersects
returns-else-intersects_interval c = rw (← c.intersects_interval.ensures, c.if-intersects_interval.false)
