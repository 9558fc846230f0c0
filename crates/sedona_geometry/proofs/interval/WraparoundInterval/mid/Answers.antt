-- `WraparoundInterval::mid` meets its contract. Assumes nothing.
use Rattle.sedona_geometry.specs.WraparoundInterval.{mid}
use Rattle.sedona_geometry.proofs.interval.WraparoundInterval.mid.Goals as goal

pub returns-then-is_wraparound : goal.returns-then-is_wraparound
unfolding mid
returns-then-is_wraparound c = rw (c.infinity.ensures, ← c.is_wraparound.ensures, c.if-is_wraparound.true)

pub returns-else-is_wraparound : goal.returns-else-is_wraparound
unfolding mid
returns-else-is_wraparound c = rw (c.mid.ensures, ← c.is_wraparound.ensures, c.if-is_wraparound.false)
