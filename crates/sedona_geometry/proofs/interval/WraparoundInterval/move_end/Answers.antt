-- `WraparoundInterval::move_end` meets its contract. Assumes nothing.
use Rattle.sedona_geometry.specs.WraparoundInterval.{move_end}
use Rattle.sedona_geometry.proofs.interval.WraparoundInterval.move_end.Goals as goal

pub returns-then-distance_left-distance_right : goal.returns-then-distance_left-distance_right
unfolding move_end
returns-then-distance_left-distance_right c = rw (c.new.ensures, c.if-distance_left-distance_right.true)

pub returns-else-distance_left-distance_right : goal.returns-else-distance_left-distance_right
unfolding move_end
returns-else-distance_left-distance_right c = rw (c.new-else-distance_left-distance_right.ensures, c.if-distance_left-distance_right.false)
