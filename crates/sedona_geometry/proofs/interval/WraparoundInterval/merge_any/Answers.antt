-- `WraparoundInterval::merge_any` meets its contract. Assumes nothing.
use Rattle.sedona_geometry.specs.WraparoundInterval.{merge_interval}
use Rattle.sedona_geometry.proofs.interval.WraparoundInterval.merge_any.Goals as goal

pub returns-then-is_empty : goal.returns-then-is_empty
unfolding merge_interval
returns-then-is_empty c = rw (c.plus_zero.ensures, ← c.is_empty.ensures, c.if-is_empty.true)

pub returns-then-is_empty-2 : goal.returns-then-is_empty-2
unfolding merge_interval
returns-then-is_empty-2 c =
    rw (
      c.plus_zero-then-is_empty-2.ensures,
      ← c.is_empty.ensures,
      c.if-is_empty.false,
      ← c.is_empty-2.ensures,
      c.if-is_empty-2.true,
    )

pub returns : goal.returns
unfolding merge_interval
returns c =
    rw (
      c.merge_non_empty.ensures,
      ← c.is_empty.ensures,
      c.if-is_empty.false,
      ← c.is_empty-2.ensures,
      c.if-is_empty-2.false,
    )
