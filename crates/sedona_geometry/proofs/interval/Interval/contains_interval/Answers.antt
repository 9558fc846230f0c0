-- `Interval::contains_interval` meets its contract. Assumes nothing.
use Rattle.sedona_geometry.specs.Interval.{contains_interval}
use Rattle.sedona_geometry.proofs.interval.Interval.contains_interval.Goals as goal

pub returns-then-self-other : goal.returns-then-self-other
unfolding contains_interval
returns-then-self-other c = rw c.if-self-other.true

pub returns-else-self-other : goal.returns-else-self-other
unfolding contains_interval
returns-else-self-other c = rw c.if-self-other.false
