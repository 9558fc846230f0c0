-- `WraparoundInterval::split` meets its contract. Assumes nothing.
use lib.Ieee.{neg}
use Rattle.sedona_geometry.specs.WraparoundInterval.{split}
use Rattle.sedona_geometry.proofs.interval.WraparoundInterval.split.Goals as goal

pub returns-then-is_wraparound : goal.returns-then-is_wraparound
unfolding split neg
returns-then-is_wraparound c =
    rw (
      c.new.ensures,
      c.new-then-is_wraparound.ensures,
      c.infinity.ensures,
      c.infinity-then-is_wraparound.ensures,
      ← c.is_wraparound.ensures,
      c.if-is_wraparound.true,
    )

pub returns-else-is_wraparound : goal.returns-else-is_wraparound
unfolding split
returns-else-is_wraparound c = rw (c.plus_zero.ensures, c.empty.ensures, ← c.is_wraparound.ensures, c.if-is_wraparound.false)
