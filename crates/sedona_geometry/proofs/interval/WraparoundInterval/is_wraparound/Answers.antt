-- `WraparoundInterval::is_wraparound` meets its contract. Assumes nothing.
use lib.Ieee.{of_bits}
use Rattle.sedona_geometry.specs.WraparoundInterval.{is_wraparound}
use Rattle.sedona_geometry.proofs.interval.WraparoundInterval.is_wraparound.Goals as goal

pub returns-then-not-is_empty : goal.returns-then-not-is_empty
unfolding is_wraparound of_bits
returns-then-not-is_empty c = rw (c.width.ensures, ← c.is_empty.ensures, c.if-not-is_empty.true)

pub returns-else-not-is_empty : goal.returns-else-not-is_empty
unfolding is_wraparound of_bits
returns-else-not-is_empty c = rw (← c.is_empty.ensures, c.if-not-is_empty.false)
