-- `WraparoundInterval::merge_value` meets its contract. Assumes nothing.
use Rattle.sedona_geometry.specs.WraparoundInterval.{merge_value}
use Rattle.sedona_geometry.proofs.Order.{ne_self}
use Rattle.sedona_geometry.proofs.interval.WraparoundInterval.merge_value.Goals as goal
use Rattle.sedona_geometry.proofs.interval.WraparoundInterval.merge_value.Goals.{then-intersects_value-via-then-intersects_value, then-intersects_value-via-else-intersects_value+then-value}

pub returns-then-intersects_value : goal.returns-then-intersects_value
unfolding merge_value
returns-then-intersects_value c =
    rw (c.plus_zero.ensures, ← c.intersects_value.ensures, ← ne_self c.args.value)
    (elim c.then-intersects_value.branch [
      | then-intersects_value-via-then-intersects_value w ↦ rw w.if-intersects_value.true
      | then-intersects_value-via-else-intersects_value+then-value w ↦ rw (w.if-intersects_value.false, w.if-value.true)
    ])

pub returns-then-not-is_wraparound : goal.returns-then-not-is_wraparound
unfolding merge_value
returns-then-not-is_wraparound c =
    rw (
      c.from_interval.ensures,
      c.merge_value.ensures,
      ← c.intersects_value.ensures,
      c.if-intersects_value.false,
      ← ne_self c.args.value,
      c.if-value.false,
      ← c.is_wraparound.ensures,
      c.if-not-is_wraparound.true,
    )

pub returns : goal.returns
unfolding merge_value
returns c =
    rw (
      c.move_end.ensures,
      ← c.intersects_value.ensures,
      c.if-intersects_value.false,
      ← ne_self c.args.value,
      c.if-value.false,
      ← c.is_wraparound.ensures,
      c.if-not-is_wraparound.false,
    )
