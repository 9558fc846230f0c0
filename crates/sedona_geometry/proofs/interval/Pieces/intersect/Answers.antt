-- `Pieces::intersect` meets its contract. Assumes nothing.
use Rattle.sedona_geometry.specs.WraparoundInterval.{pieces_intersect}
use Rattle.sedona_geometry.proofs.interval.Pieces.intersect.Goals as goal

pub returns-then-intersects_interval : goal.returns-then-intersects_interval
unfolding pieces_intersect
returns-then-intersects_interval c = rw (← c.intersects_interval.ensures, c.if-intersects_interval.true)

pub returns-else-intersects_interval : goal.returns-else-intersects_interval
unfolding pieces_intersect
returns-else-intersects_interval c =
    rw (← c.intersects_interval.ensures, c.if-intersects_interval.false, c.intersects_interval-else-intersects_interval.ensures)
