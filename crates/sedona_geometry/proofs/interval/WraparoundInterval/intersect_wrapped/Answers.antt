-- `WraparoundInterval::intersect_wrapped` meets its contract. Assumes nothing.
use Rattle.sedona_geometry.specs.WraparoundInterval.{intersect_wrapped}
use Rattle.sedona_geometry.proofs.interval.WraparoundInterval.intersect_wrapped.Goals as goal

pub returns-then-intersects_interval : goal.returns-then-intersects_interval
unfolding intersect_wrapped
returns-then-intersects_interval c =
    rw (
      c.new.ensures,
      c.merge_interval-union.ensures,
      ← c.new-excluded_self.ensures,
      ← c.new-excluded_other.ensures,
      ← c.intersects_interval.ensures,
      c.if-intersects_interval.true,
    )

pub returns-else-intersects_interval : goal.returns-else-intersects_interval
unfolding intersect_wrapped
returns-else-intersects_interval c =
    rw (
      ← c.new-excluded_self.ensures,
      ← c.new-excluded_other.ensures,
      ← c.intersects_interval.ensures,
      c.if-intersects_interval.false,
    )
