-- `Interval::expand_by` meets its contract. Assumes nothing.
use Rattle.sedona_geometry.specs.Interval.{expand_by}
use Rattle.sedona_geometry.proofs.interval.Interval.expand_by.Goals as goal

pub returns-then-is_unmoved_by : goal.returns-then-is_unmoved_by
unfolding expand_by
returns-then-is_unmoved_by c = rw (c.plus_zero.ensures, ← c.is_unmoved_by.ensures, c.if-is_unmoved_by.true)

pub returns : goal.returns
unfolding expand_by
returns c =
    rw (
      c.new.ensures,
      ← c.is_unmoved_by.ensures,
      c.if-is_unmoved_by.false,
    )
