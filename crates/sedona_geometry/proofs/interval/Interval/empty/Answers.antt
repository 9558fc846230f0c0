-- `Interval::empty` meets its contract. Assumes nothing.
use lib.Ieee.{neg}
use Rattle.sedona_geometry.proofs.interval.Interval.empty.Goals as goal

pub returns : goal.returns
unfolding neg
returns c = rw (c.new.ensures, c.infinity.ensures, c.infinity-2.ensures)
