-- `WraparoundInterval::from_pieces` meets its contract. Assumes nothing.
use Rattle.sedona_geometry.specs.WraparoundInterval.{from_pieces}
use Rattle.sedona_geometry.proofs.interval.WraparoundInterval.from_pieces.Goals as goal

pub returns-then-intersects_interval : goal.returns-then-intersects_interval
unfolding from_pieces
returns-then-intersects_interval c = rw (c.full.ensures, ← c.intersects_interval.ensures, c.if-intersects_interval.true)

pub returns-else-intersects_interval : goal.returns-else-intersects_interval
unfolding from_pieces
returns-else-intersects_interval c = rw (c.new.ensures, ← c.intersects_interval.ensures, c.if-intersects_interval.false)
