-- `Interval::merge_value` meets its contract. Assumes nothing.
use Rattle.sedona_geometry.specs.Interval.{merge_value}
use Rattle.sedona_geometry.proofs.interval.Interval.merge_value.Goals as goal

pub returns : goal.returns
unfolding merge_value
returns c = rw (c.new.ensures, c.min.ensures, c.max.ensures)
