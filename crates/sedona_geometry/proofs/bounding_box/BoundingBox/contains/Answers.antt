-- `BoundingBox::contains` meets its contract. Assumes nothing.
use Rattle.sedona_geometry.specs.BoundingBox.{contains}
use Rattle.sedona_geometry.proofs.bounding_box.BoundingBox.contains.Goals as goal

pub returns-then-dimensions_contain : goal.returns-then-dimensions_contain
unfolding contains
returns-then-dimensions_contain c =
    rw (
      ← c.contains_interval.ensures,
      c.if-contains_interval.true,
      ← c.contains_interval-then-contains_interval.ensures,
      c.if-contains_interval-2.true,
      ← c.dimensions_contain.ensures,
      c.if-dimensions_contain.true,
      c.dimensions_contain-then-dimensions_contain.ensures,
    )

pub returns-else-dimensions_contain : goal.returns-else-dimensions_contain
unfolding contains
returns-else-dimensions_contain c =
    rw (
      ← c.contains_interval.ensures,
      c.if-contains_interval.true,
      ← c.contains_interval-then-contains_interval.ensures,
      c.if-contains_interval-2.true,
      ← c.dimensions_contain.ensures,
      c.if-dimensions_contain.false,
    )

pub returns-else-contains_interval-2 : goal.returns-else-contains_interval-2
unfolding contains
returns-else-contains_interval-2 c =
    rw (
      ← c.contains_interval.ensures,
      c.if-contains_interval.true,
      ← c.contains_interval-then-contains_interval.ensures,
      c.if-contains_interval-2.false,
    )

pub returns-else-contains_interval : goal.returns-else-contains_interval
unfolding contains
returns-else-contains_interval c = rw (← c.contains_interval.ensures, c.if-contains_interval.false)
