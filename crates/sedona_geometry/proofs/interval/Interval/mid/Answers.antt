-- `Interval::mid` meets its contract. Assumes nothing.
use lib.Ieee.{of_bits}
use Rattle.sedona_geometry.proofs.interval.Interval.mid.Goals as goal

pub returns : goal.returns
unfolding of_bits
returns c = rw c.width.ensures
