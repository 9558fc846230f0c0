-- `float::abs` meets its contract, by the sign of its argument. Assumes nothing.
use lib.Ieee.{binary64, of_bits}
use Rattle.sedona_geometry.proofs.Booleans.{holds, fails}
use Rattle.sedona_geometry.proofs.Sign.{abs_negative, abs_zero, abs_positive}
use Rattle.sedona_geometry.proofs.float.abs.Goals as goal

pub returns-then-x : goal.returns-then-x
unfolding of_bits
returns-then-x c = abs_negative c.args.x (holds c.if-x.true)

pub returns-then-x-2 : goal.returns-then-x-2
unfolding of_bits
returns-then-x-2 c = abs_zero binary64 c.args.x (holds c.well_formed.0.1) (holds c.if-x-2.true)

pub returns-else-x-2 : goal.returns-else-x-2
unfolding of_bits
returns-else-x-2 c = abs_positive c.args.x (fails c.if-x.false) (fails c.if-x-2.false)
