-- `float::plus_zero` meets its contract: a double plus +0 is the double, a zero +0. Assumes nothing.
use lib.Ieee.{binary64, of_bits}
use Rattle.sedona_geometry.proofs.Exact.{plus_zero_added}
use Rattle.sedona_geometry.proofs.Booleans.{holds}
use Rattle.sedona_geometry.proofs.float.plus_zero.Goals as goal

pub returns : goal.returns
unfolding of_bits
returns c = plus_zero_added binary64 c.args.v (holds c.well_formed.0.1)
