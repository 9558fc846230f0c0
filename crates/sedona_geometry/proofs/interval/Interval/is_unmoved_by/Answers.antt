-- `Interval::is_unmoved_by` meets its contract. Assumes nothing.
use lib.Ieee.{of_bits}
use Rattle.sedona_geometry.specs.Interval.{is_unmoved_by}
use Rattle.sedona_geometry.proofs.Order.{ne_self}
use Rattle.sedona_geometry.proofs.interval.Interval.is_unmoved_by.Goals as goal

pub returns-then-is_empty : goal.returns-then-is_empty
unfolding is_unmoved_by
returns-then-is_empty c = rw (← c.is_empty.ensures, c.if-is_empty.true)

pub returns-then-distance : goal.returns-then-distance
unfolding is_unmoved_by
returns-then-distance c =
    rw (
      ← c.is_empty.ensures,
      c.if-is_empty.false,
      ← ne_self c.args.distance,
      c.if-distance.true,
    )

pub returns : goal.returns
unfolding is_unmoved_by of_bits
returns c =
    rw (
      ← c.is_empty.ensures,
      c.if-is_empty.false,
      ← ne_self c.args.distance,
      c.if-distance.false,
    )
