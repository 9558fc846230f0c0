-- `WraparoundInterval::try_into_interval` meets its contract. Assumes nothing.
use Rattle.sedona_geometry.specs.WraparoundInterval.{try_into_interval}
use Rattle.sedona_geometry.proofs.interval.WraparoundInterval.try_into_interval.Goals as goal

pub returns-then-is_wraparound : goal.returns-then-is_wraparound
unfolding try_into_interval
returns-then-is_wraparound c = rw (← c.is_wraparound.ensures, c.if-is_wraparound.true)

pub returns : goal.returns
unfolding try_into_interval
returns c = rw (c.plus_zero.ensures, ← c.is_wraparound.ensures, c.if-is_wraparound.false)
