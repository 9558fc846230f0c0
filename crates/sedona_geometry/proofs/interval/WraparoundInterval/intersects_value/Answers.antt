-- `WraparoundInterval::intersects_value` meets its contract. Assumes nothing.
use Rattle.sedona_geometry.specs.WraparoundInterval.{intersects_value}
use Rattle.sedona_geometry.proofs.interval.WraparoundInterval.intersects_value.Goals as goal

pub returns-then-intersects_value : goal.returns-then-intersects_value
unfolding intersects_value
returns-then-intersects_value c = rw (← c.split-a.ensures, ← c.intersects_value.ensures, c.if-intersects_value.true)

pub returns-else-intersects_value : goal.returns-else-intersects_value
unfolding intersects_value
returns-else-intersects_value c =
    rw (
      ← c.split-a.ensures,
      ← c.intersects_value.ensures,
      c.if-intersects_value.false,
      c.intersects_value-else-intersects_value.ensures,
    )
