-- `Interval::intersection` meets its contract. Assumes nothing.
use Rattle.sedona_geometry.specs.Interval.{intersection}
use Rattle.sedona_geometry.proofs.interval.Interval.intersection.Goals as goal

pub returns-then-lo-hi : goal.returns-then-lo-hi
unfolding intersection
returns-then-lo-hi c =
    rw (
      c.empty.ensures,
      ← c.max-lo.ensures,
      ← c.min-hi.ensures,
      c.if-lo-hi.true,
    )

pub returns-else-lo-hi : goal.returns-else-lo-hi
unfolding intersection
returns-else-lo-hi c =
    rw (
      c.new.ensures,
      ← c.max-lo.ensures,
      ← c.min-hi.ensures,
      c.if-lo-hi.false,
    )
