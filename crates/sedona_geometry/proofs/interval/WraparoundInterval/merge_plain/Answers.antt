-- `WraparoundInterval::merge_plain` meets its contract. Assumes nothing.
use Rattle.sedona_geometry.specs.WraparoundInterval.{merge_plain, nearer_left}
use Rattle.sedona_geometry.proofs.interval.WraparoundInterval.merge_plain.Goals as goal

pub returns-then-abs : goal.returns-then-abs
unfolding merge_plain nearer_left
returns-then-abs c =
    rw (
      c.from_pieces.ensures,
      c.merge_interval.ensures,
      ← c.split-a.ensures,
      ← c.mid-mid.ensures,
      ← c.abs.ensures,
      ← c.abs-2.ensures,
      c.if-abs.true,
    )

pub returns-else-abs : goal.returns-else-abs
unfolding merge_plain nearer_left
returns-else-abs c =
    rw (
      c.from_pieces-else-abs.ensures,
      c.merge_interval-else-abs.ensures,
      ← c.split-a.ensures,
      ← c.mid-mid.ensures,
      ← c.abs.ensures,
      ← c.abs-2.ensures,
      c.if-abs.false,
    )
