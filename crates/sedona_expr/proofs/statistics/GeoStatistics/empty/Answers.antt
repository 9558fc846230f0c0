-- `GeoStatistics::empty` meets its contract. Assumes nothing.
use lib.Ieee.{of_bits}
use Rattle.sedona_expr.proofs.statistics.GeoStatistics.empty.Goals as goal

pub returns : goal.returns
unfolding of_bits
returns c = rw (c.empty.ensures, c.new.ensures)
