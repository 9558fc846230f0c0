-- `Interval::is_empty` meets its contract. Assumes nothing.
use lib.Ieee.{neg}
use Rattle.sedona_geometry.specs.Interval.{is_empty}
use Rattle.sedona_geometry.proofs.interval.Interval.is_empty.Goals as goal

pub returns : goal.returns
unfolding is_empty neg
returns c = rw (c.width.ensures, c.infinity.ensures)
