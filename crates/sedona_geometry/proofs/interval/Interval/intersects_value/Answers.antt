-- `Interval::intersects_value` meets its contract. Assumes nothing.
use Rattle.sedona_geometry.specs.Interval.{intersects_value}
use Rattle.sedona_geometry.proofs.interval.Interval.intersects_value.Goals as goal

pub returns-then-value-self : goal.returns-then-value-self
unfolding intersects_value
returns-then-value-self c = rw c.if-value-self.true

pub returns-else-value-self : goal.returns-else-value-self
unfolding intersects_value
returns-else-value-self c = rw c.if-value-self.false
