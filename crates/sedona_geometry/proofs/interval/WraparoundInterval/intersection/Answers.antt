-- `WraparoundInterval::intersection` meets its contract. Assumes nothing.
use Rattle.sedona_geometry.specs.WraparoundInterval.{intersection}
use Rattle.sedona_geometry.proofs.interval.WraparoundInterval.intersection.Goals as goal

pub returns-then-is_wraparound-2 : goal.returns-then-is_wraparound-2
unfolding intersection
returns-then-is_wraparound-2 c =
    rw (
      c.intersect_wrapped.ensures,
      ← c.is_wraparound.ensures,
      c.if-is_wraparound.true,
      ← c.is_wraparound-then-is_wraparound.ensures,
      c.if-is_wraparound-2.true,
    )

pub returns-then-is_wraparound : goal.returns-then-is_wraparound
unfolding intersection
returns-then-is_wraparound c =
    rw (
      c.intersect_plain.ensures,
      ← c.is_wraparound.ensures,
      c.if-is_wraparound.true,
      ← c.is_wraparound-then-is_wraparound.ensures,
      c.if-is_wraparound-2.false,
    )

pub returns-then-is_wraparound-3 : goal.returns-then-is_wraparound-3
unfolding intersection
returns-then-is_wraparound-3 c =
    rw (
      c.intersect_plain-then-is_wraparound-3.ensures,
      ← c.is_wraparound.ensures,
      c.if-is_wraparound.false,
      ← c.is_wraparound-2.ensures,
      c.if-is_wraparound-3.true,
    )

pub returns : goal.returns
unfolding intersection
returns c =
    rw (
      c.from_interval.ensures,
      c.intersection.ensures,
      ← c.is_wraparound.ensures,
      c.if-is_wraparound.false,
      ← c.is_wraparound-2.ensures,
      c.if-is_wraparound-3.false,
    )
