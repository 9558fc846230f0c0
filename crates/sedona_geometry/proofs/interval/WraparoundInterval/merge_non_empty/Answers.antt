-- `WraparoundInterval::merge_non_empty` meets its contract. Assumes nothing.
use Rattle.sedona_geometry.specs.WraparoundInterval.{merge_non_empty}
use Rattle.sedona_geometry.proofs.interval.WraparoundInterval.merge_non_empty.Goals as goal

pub returns-then-is_wraparound-2 : goal.returns-then-is_wraparound-2
unfolding merge_non_empty
returns-then-is_wraparound-2 c =
    rw (
      c.merge_wrapped.ensures,
      ← c.is_wraparound.ensures,
      c.if-is_wraparound.true,
      ← c.is_wraparound-then-is_wraparound.ensures,
      c.if-is_wraparound-2.true,
    )

pub returns-then-is_wraparound : goal.returns-then-is_wraparound
unfolding merge_non_empty
returns-then-is_wraparound c =
    rw (
      c.merge_plain.ensures,
      ← c.is_wraparound.ensures,
      c.if-is_wraparound.true,
      ← c.is_wraparound-then-is_wraparound.ensures,
      c.if-is_wraparound-2.false,
    )

pub returns-then-is_wraparound-3 : goal.returns-then-is_wraparound-3
unfolding merge_non_empty
returns-then-is_wraparound-3 c =
    rw (
      c.merge_plain-then-is_wraparound-3.ensures,
      ← c.is_wraparound.ensures,
      c.if-is_wraparound.false,
      ← c.is_wraparound-2.ensures,
      c.if-is_wraparound-3.true,
    )

pub returns : goal.returns
unfolding merge_non_empty
returns c =
    rw (
      c.from_interval.ensures,
      c.merge_interval.ensures,
      ← c.is_wraparound.ensures,
      c.if-is_wraparound.false,
      ← c.is_wraparound-2.ensures,
      c.if-is_wraparound-3.false,
    )
