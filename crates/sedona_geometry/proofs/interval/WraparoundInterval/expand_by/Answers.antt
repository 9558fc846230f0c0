-- `WraparoundInterval::expand_by` meets its contract. Assumes nothing.
use Rattle.sedona_geometry.specs.WraparoundInterval.{expand_by}
use Rattle.sedona_geometry.proofs.interval.WraparoundInterval.expand_by.Goals as goal

pub returns-then-is_unmoved_by : goal.returns-then-is_unmoved_by
unfolding expand_by
returns-then-is_unmoved_by c = rw (c.plus_zero.ensures, ← c.is_unmoved_by.ensures, c.if-is_unmoved_by.true)

pub returns-then-not-is_wraparound : goal.returns-then-not-is_wraparound
unfolding expand_by
returns-then-not-is_wraparound c =
    rw (
      c.from_interval.ensures,
      c.expand_by.ensures,
      ← c.is_unmoved_by.ensures,
      c.if-is_unmoved_by.false,
      ← c.is_wraparound.ensures,
      c.if-not-is_wraparound.true,
    )

pub returns : goal.returns
unfolding expand_by
returns c =
    rw (
      c.excluding.ensures,
      ← c.is_unmoved_by.ensures,
      c.if-is_unmoved_by.false,
      ← c.is_wraparound.ensures,
      c.if-not-is_wraparound.false,
    )
