-- `Interval::merge_interval` meets its contract. Assumes nothing.
use Rattle.sedona_geometry.specs.Interval.{merge_interval}
use Rattle.sedona_geometry.proofs.interval.Interval.merge_interval.Goals as goal

pub returns : goal.returns
unfolding merge_interval
returns c = rw (c.new.ensures, c.min.ensures, c.max.ensures)
